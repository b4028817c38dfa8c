use Rattle.std.proofs.Common.{arith, ℕ, suc, ◌≡◌, ◌+◌, ◌∷◌, drop, subst, get_or, sym, ap, ◌∙◌, Bool, if◌then◌else◌}
use Rattle.basis.proofs.Lists.{drop_at_place}
use Rattle.dump_match.specs.Comparison.{differing_in}
use Rattle.dump_match.specs.declared.comparison.Pair.{Pair}
use Rattle.dump_match.proofs.CountLemmas.{at_place, counted}
use Rattle.dump_match.proofs.reference.count_differing.Goals.{then-pair_differs, else-pair_differs}
use Rattle.dump_match.proofs.reference.count_differing.Goals as goal

pub loop-pair-preserved : goal.loop-pair-preserved
loop-pair-preserved g c =
    let told = c.args.slots.now.columns.told.items in
    let values = c.args.values.now in
    let pairs = c.args.pairs.now in
    let i = c.loop-pair.pair-index in
    let pair : Pair = get_or pairs i (record { column = 0; variable = 0 }) in
    let one : suc i ≡ i + 1 = omega arith in
    let is = subst (λ (n : ℕ). pair ∷ drop n pairs ≡ drop i pairs) one
    (sym (drop_at_place pairs i pair (at_place pairs i (record { column = 0; variable = 0 }) c.loop-pair-test.true))) in
    elim c.if-pair_differs.branch [
      | then-pair_differs w ↦ (
        counted told values pair (drop i pairs) (drop (i + 1) pairs) c.loop-pair.count c.if-pair_differs.count (differing_in told values pairs) 1
            is c.loop-pair.invariant.0 (c.pair_differs.ensures ∙ ap (λ (b : Bool). if b then 1 else 0) w.if-pair_differs.true) w.count-is,
        omega (arith, w.count-is, c.loop-pair.invariant.1),
      )
      | else-pair_differs w ↦ (
        counted told values pair (drop i pairs) (drop (i + 1) pairs) c.loop-pair.count c.if-pair_differs.count (differing_in told values pairs) 0
            is c.loop-pair.invariant.0 (c.pair_differs.ensures ∙ ap (λ (b : Bool). if b then 1 else 0) w.if-pair_differs.false) (omega (arith, w.count-is)),
        omega (arith, w.count-is, c.loop-pair.invariant.1),
      )
    ]
