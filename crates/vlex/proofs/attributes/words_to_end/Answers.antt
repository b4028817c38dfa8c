use Rattle.std.proofs.Common.{◌≡◌, List, true, drop, codes, sym, ◌∙◌, ap, arith}
use Rattle.std.proofs.lemmas.List.{length-drop}
use Rattle.basis.proofs.Bools.{and_right}
use Rattle.vlex.specs.Lexed.{Piece, after, closes, may_end}
use Rattle.vlex.specs.Tokenized.{pieces_of}
use Rattle.vlex.proofs.Instances.{begins_two, closing_here, follows_bad, follows_on}
use Rattle.vlex.proofs.attributes.words_to_end.Goals as goal

pub returns-then-ends-clause-within : goal.returns-then-ends-clause-within
returns-then-ends-clause-within c =
    let tokens : List Piece = pieces_of c.args.tokens.now in
    let two : closes (drop c.loop-at.at tokens) ≡ true = and_right (may_end c.loop-at.part) (closes (drop c.loop-at.at tokens)) (sym c.ends.ensures ∙ c.if-ends.true) in
    omega (arith, begins_two (codes "*") (codes ")") (drop c.loop-at.at tokens) two, length-drop c.loop-at.at tokens, c.loop-at.invariant.low, c.loop-at.invariant.within)

pub returns-in_default-clause-value : goal.returns-in_default-clause-value
returns-in_default-clause-value c =
    let tokens : List Piece = pieces_of c.args.tokens.now in
    sym (follows_bad tokens c.args.from c.loop-at.at c.loop-at.part c.kind.result c.text.result.now c.loop-at.invariant.follows
    (closing_here tokens c.loop-at.at c.loop-at.part c.kind.result c.text.result.now c.kind.ensures c.text.ensures) (sym c.ends.ensures ∙ c.if-ends.false)
    (ap (after c.loop-at.part c.kind.result c.text.result.now) (sym c.opens.ensures) ∙ sym c.in_default.ensures))

pub loop-at-preserved : goal.loop-at-preserved
loop-at-preserved c =
    let tokens : List Piece = pieces_of c.args.tokens.now in
    record {
      low = omega (arith, c.loop-at.invariant.low);
      within = omega (arith, c.loop-at-test.true, c.len.ensures.value);
      follows = follows_on tokens c.args.from c.loop-at.at c.loop-at.part c.in-Some.next c.kind.result c.text.result.now c.loop-at.invariant.low c.loop-at.invariant.follows
          (closing_here tokens c.loop-at.at c.loop-at.part c.kind.result c.text.result.now c.kind.ensures c.text.ensures) (sym c.ends.ensures ∙ c.if-ends.false)
          (ap (after c.loop-at.part c.kind.result c.text.result.now) (sym c.opens.ensures) ∙ sym c.in-Some.ensures);
    }
