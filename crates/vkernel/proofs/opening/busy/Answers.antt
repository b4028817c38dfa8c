use Rattle.std.proofs.Common.{◌≡◌, ◌≢◌, ◌-◌, ℕ, List, suc, ◌∷◌, length, drop, drop-cons, sym, ap, subst, ◌∙◌, arith}
use Rattle.std.proofs.lemmas.Bool.Decides.{nat_tests}
use Rattle.vmodel.specs.Run.{busy_from}
use Rattle.vkernel.proofs.OpeningLemmas.{busy_before}
use Rattle.vkernel.proofs.opening.busy.Goals as goal

pub loop-i-preserved-then-not-is_empty : goal.loop-i-preserved-then-not-is_empty
loop-i-preserved-then-not-is_empty c =
    let begins = c.args.begins.now in
    let places = c.index-begins-i.result in
    let j = c.loop-i.i - 1 in
    let rest : List (List ℕ) = drop (suc j) begins in
    let seen : c.as_slice.result.now ≡ places = c.as_slice.ensures in
    let full : length c.as_slice.result.now ≢ 0 = grind (arith, nat_tests) in
    let some : length places ≢ 0 = subst (λ (xs : List ℕ). length xs ≢ 0) seen full in
    let next : c.loop-i.i ≡ suc j = omega arith in
    let so_far = subst (λ (n : ℕ). c.loop-i.set ≡ busy_from n (drop n begins)) next c.loop-i.invariant.1 in (
      omega arith,
      c.insert.ensures
          ∙ busy_before j places c.loop-i.set (drop j begins) rest
          (drop-cons begins j places (omega arith) ∙ ap (λ (first : List ℕ). first ∷ rest) (sym c.index-begins-i.is)) some so_far,
    )
