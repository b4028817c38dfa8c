-- Pairs that differ, one after another.
use Rattle.std.proofs.Common.{◌≡◌, ℕ, zero, suc, ◌+◌, ◌<◌, List, [], ◌∷◌, ◌++◌, length, Option, Some, None, refl, ap, ◌∙◌, arith, append_assoc}
use Rattle.std.specs.Prelude.{slice_get, get_or}
use Rattle.vbits.specs.Vectors.{Vector}
use Rattle.dump_match.specs.Comparison.{all_told_apart, differing, differing_in, told_apart}
use Rattle.dump_match.specs.declared.comparison.Pair.{Pair}
use Rattle.dump_match.specs.declared.differing.Differing.{Differing}

-- what stands at a place of a list
pub at_place : {X : Type 0} (xs : List X) (i : ℕ) (other : X) → i < length xs → slice_get xs i ≡ Some (get_or xs i other)
at_place [] i other lt = absurd (omega (arith, lt))
at_place (x ∷ xs) zero other lt = refl
at_place (x ∷ xs) (suc i) other lt = at_place xs i other (omega (arith, lt))

-- the next pair is counted with those before
pub counted : (told : List (Option Vector)) (values : List Vector) (pair : Pair) (here more : List Pair) (count next total k : ℕ) →
    pair ∷ more ≡ here → count + differing_in told values here ≡ total →
    differing (get_or told pair.column None) (slice_get values pair.variable) ≡ k → next ≡ count + k →
    next + differing_in told values more ≡ total
counted told values pair here more count next total k is so_far by then =
    let front = ap (differing_in told values) is in
    omega (arith, front, so_far, by, then)

-- and told with those before
pub told_more : (told : List (Option Vector)) (values : List Vector) (pair : Pair) (here more : List Pair) (list found next total : List Differing) →
    pair ∷ more ≡ here → list ++ all_told_apart told values here ≡ total →
    found ≡ told_apart pair.variable (get_or told pair.column None) (slice_get values pair.variable) → next ≡ list ++ found →
    next ++ all_told_apart told values more ≡ total
told_more told values pair here more list found next total is so_far by then =
    ap (λ (all : List Differing). all ++ all_told_apart told values more) then ∙ append_assoc list found (all_told_apart told values more)
    ∙ ap (λ (some : List Differing). list ++ (some ++ all_told_apart told values more)) by
    ∙ ap (λ (pairs : List Pair). list ++ all_told_apart told values pairs) is ∙ so_far
