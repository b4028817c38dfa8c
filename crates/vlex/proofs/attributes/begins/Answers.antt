use Rattle.std.proofs.Common.{◌&&◌, drop, sym, ◌∙◌, ap, arith}
use Rattle.std.specs.Str.{bytes_eq}
use Rattle.std.proofs.lemmas.List.{length-drop}
use Rattle.vlex.specs.Tokenized.{pieces_of}
use Rattle.vlex.proofs.Instances.{begins_short, begins_here, begins_not}
use Rattle.vlex.proofs.attributes.begins.Goals as goal

pub returns-then-len-at-lt2 : goal.returns-then-len-at-lt2
returns-then-len-at-lt2 c =
    sym (begins_short c.args.first.now c.args.second.now (drop c.args.at (pieces_of c.args.tokens.now))
    (omega (arith, length-drop c.args.at (pieces_of c.args.tokens.now), c.if-len-at-lt2.true, c.len.ensures.value)))

pub returns-then-eq : goal.returns-then-eq
returns-then-eq c =
    c.eq-then-eq.ensures ∙ ap (λ b. b && bytes_eq c.text-then-eq.result.now c.args.second.now) (sym c.if-eq.true ∙ c.eq.ensures)
    ∙ sym (begins_here (pieces_of c.args.tokens.now) c.args.at c.args.first.now c.args.second.now c.text.result.now c.text-then-eq.result.now c.text.ensures c.text-then-eq.ensures)

pub returns-else-eq : goal.returns-else-eq
returns-else-eq c =
    c.if-eq.false ∙ sym (begins_not (pieces_of c.args.tokens.now) c.args.at c.args.first.now c.args.second.now c.text.result.now c.text.ensures (sym c.eq.ensures ∙ c.if-eq.false))
