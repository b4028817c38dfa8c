use Rattle.std.proofs.Common.{◌≡◌, List, false, length, drop, codes, nat_lt, sym, ◌∙◌, ap, arith, inl, inr}
use Rattle.std.proofs.lemmas.Bool.{cases_Bool, cases_eq, ltb-true, ltb-false}
use Rattle.std.proofs.lemmas.List.{length-drop}
use Rattle.vlex.specs.Lexed.{Piece, opens}
use Rattle.vlex.specs.Tokenized.{pieces_of}
use Rattle.vlex.proofs.Instances.{begins_short}
use Rattle.vlex.proofs.attributes.has_begin.Goals as goal

pub loop-at-preserved : goal.loop-at-preserved
loop-at-preserved c =
    let tokens : List Piece = pieces_of c.args.tokens.now in
    let here : opens (drop c.loop-at.at tokens) ≡ false = sym c.opens.ensures ∙ c.if-opens.false in
    record {
      within = omega (arith, c.loop-at-test.true, c.len.ensures.value);
      none = λ k lt. elim (cases_eq k c.loop-at.at) [
        | inl same ↦ ap (λ n. opens (drop n tokens)) same ∙ here
        | inr other ↦ c.loop-at.invariant.none k (omega (arith, other))
      ];
    }

pub returns : goal.returns
returns c = λ _ k.
    let tokens : List Piece = pieces_of c.args.tokens.now in
    elim (cases_Bool (nat_lt k (length tokens))) [
      | inl less ↦ c.loop-at.invariant.none k (omega (arith, ltb-true k (length tokens) less, c.loop-at-test.false, c.len.ensures.value))
      | inr past ↦ begins_short (codes "(") (codes "*") (drop k tokens) (omega (arith, length-drop k tokens, ltb-false k (length tokens) past))
    ]
