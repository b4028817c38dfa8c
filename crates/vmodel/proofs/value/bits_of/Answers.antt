use Rattle.std.specs.Prelude.{drop}
use Rattle.std.proofs.Common.{◌∙◌, ap, arith}
use Rattle.vvalue.specs.Value.{value_at, bounds_of}
use Rattle.vvalue.specs.Targets.{both_fall, leftwards}
use Rattle.vmodel.specs.Value.{bits_from}
use Rattle.vmodel.proofs.PartLemmas.{rest_is}
use Rattle.vmodel.proofs.value.bits_of.Goals as goal

pub returns : goal.returns
returns c =
    let selected = c.args.selected in
    let bounds = c.bounds_of-bounds.ensures in
    let falling = c.both_fall-falling.ensures ∙ ap (λ b. both_fall b selected) bounds in
    let low = c.leftwards-low.ensures ∙ (λ i. leftwards (falling i) selected.right (bounds i).right) in
    let missing = c.leftwards-missing.ensures ∙ (λ i. leftwards (falling i) (bounds i).right selected.right) in
    let letters =
    rest_is c.len-2.result c.leftwards-missing.result c.args.value c.select-letters.result c.len-2.ensures.letters
    (omega (arith, c.len.ensures, c.len-2.ensures, c.if-missing-len.false)) c.select-letters.ensures in
    c.bits_from.ensures
    ∙ (λ i. bits_from c.args.variable (c.value_at.ensures i) (low i) (letters i))
    ∙ ap (λ n. bits_from c.args.variable (value_at c.args.environment.now c.args.variable) (leftwards (both_fall (bounds_of c.args.environment.now c.args.variable) selected) selected.right (bounds_of c.args.environment.now c.args.variable).right) (drop n c.args.value.letters)) missing
