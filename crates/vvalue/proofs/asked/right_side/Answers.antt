use Rattle.std.proofs.Common.{ℕ, [], max, ap, ◌∙◌}
use Rattle.vbits.specs.Vectors.{Vector, resize}
use Rattle.vvalue.specs.declared.size_and_sign.SizeAndSign.{SizeAndSign}
use Rattle.vvalue.specs.Value.{size_and_sign, value_of, right_side}
use Rattle.vvalue.proofs.NodeLemmas.{alone}
use Rattle.vvalue.proofs.asked.right_side.Goals as goal

pub returns : goal.returns
unfolding right_side
returns c =
    let is = alone c.args.expression.now c.nodes-nodes.result.now c.nodes-nodes.ensures in
    c.resize.ensures ∙ ap (λ (v : Vector). resize v c.args.count)
    (c.value_of-value.ensures.exact c.args.expression.now [] is ∙ ap (value_of c.args.environment.now c.args.expression.now)
    (ap (λ (n : ℕ). size_and_sign n c.self_determined.result.0.signed) c.max.ensures
    ∙ ap (λ (x : SizeAndSign). size_and_sign (max c.args.count x.size) x.signed) (c.self_determined.ensures.exact c.args.expression.now [] is)))
