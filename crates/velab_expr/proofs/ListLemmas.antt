-- A loop over a list that builds another: what was done and what is left to do make the whole.
use Rattle.std.proofs.Common.{◌≡◌, ◌<◌, ℕ, ◌+◌, Bool, false, ◌&&◌, List, ◌∷◌, ◌++◌, length, drop, get_or, refl, sym, ap, subst, ◌∙◌, append_assoc, length-append, arith}
use Rattle.basis.proofs.Lists.{left_from}

module _ {A : Type 0} (xs : List A) (i : ℕ) (x : A) (within : i < length xs) (is : x ≡ get_or xs i x) where
  pub drop_at : drop i xs ≡ x ∷ drop (i + 1) xs
  drop_at = sym (left_from xs i x is within)

  module _ {B : Type 0} (F : List A → List B) (h : A → List B) (splits : (y : A) (ys : List A) → F (y ∷ ys) ≡ h y ++ F ys) where
    -- what is left begins with what x gives
    pub opened : (done all : List B) → done ++ F (drop i xs) ≡ all → done ++ (h x ++ F (drop (i + 1) xs)) ≡ all
    opened done all same = ap (λ l. done ++ l) (sym (ap F drop_at ∙ splits x (drop (i + 1) xs))) ∙ same

    pub step : (done next all : List B) → next ≡ done ++ h x → done ++ F (drop i xs) ≡ all → next ++ F (drop (i + 1) xs) ≡ all
    step done next all is_next same =
        ap (λ l. l ++ F (drop (i + 1) xs)) is_next
        ∙ append_assoc done (h x) (F (drop (i + 1) xs))
        ∙ opened done all same

    pub stopped : (done all : List B) → done ++ F (drop i xs) ≡ all → (done ++ h x) ++ F (drop (i + 1) xs) ≡ all
    stopped done all same = step done (done ++ h x) all refl same

  module _ (F : List A → Bool) (p : A → Bool) (splits : (y : A) (ys : List A) → F (y ∷ ys) ≡ (p y && F ys)) (all : Bool) (same : F (drop i xs) ≡ all) where
    parts : (p x && F (drop (i + 1) xs)) ≡ all
    parts = sym (ap F drop_at ∙ splits x (drop (i + 1) xs)) ∙ same

    pub fails_at : p x ≡ false → all ≡ false
    fails_at e = sym parts ∙ ap (λ b. b && F (drop (i + 1) xs)) e

-- a list that begins with a long one is long
pub longer : {B : Type 0} (n : ℕ) (piece rest all : List B) → n < length piece → piece ++ rest ≡ all → n < length all
longer n piece rest all more is = subst (λ l. n < length l) is (more_still (length (piece ++ rest)) (length-append piece rest))
  where
    more_still : (k : ℕ) → k ≡ length piece + length rest → n < k
    more_still k e = omega arith
