-- What holds of each element of a list, place after place.
use Rattle.std.proofs.Common.{◌≡◌, ℕ, ◌+◌, ◌<◌, ◌≤◌, List, get_or, length, slice_get, Some, arith, ap, sym, ◌∙◌, subst, inl, inr}
use Rattle.std.proofs.lemmas.Bool.{cases_lt}
use Rattle.std.proofs.lemmas.Option.{same_Some, slice_get-get_or}
use Rattle.basis.proofs.Lists.{place_within}

-- it holds of each element in front of a place
abbrev pub EachBelow : {X : Type 0} → (X → Type 0) → List X → ℕ → Type 0
EachBelow {X} P xs n = (c : ℕ) (x : X) → c < n → slice_get xs c ≡ Some x → P x

-- and of the one at the place
pub each_more : {X : Type 0} (P : X → Type 0) (xs : List X) (i : ℕ) (x : X) → x ≡ get_or xs i x → i < length xs → P x → EachBelow P xs i → EachBelow P xs (i + 1)
each_more P xs i x is lt here below c y less at = elim (cases_lt c i) [
  | inl earlier ↦ below c y earlier at
  | inr ge ↦ (
      let same : c ≡ i = omega arith in
      let one : Some x ≡ Some y = ap Some is ∙ sym (slice_get-get_or xs i x lt) ∙ ap (slice_get xs) (sym same) ∙ at in
      subst P (same_Some x y one) here)
]

-- at the end it holds of all
pub each_all : {X : Type 0} (P : X → Type 0) (xs : List X) (i : ℕ) → length xs ≤ i → EachBelow P xs i → (c : ℕ) (x : X) → slice_get xs c ≡ Some x → P x
each_all P xs i end below c x at = below c x (omega (arith, end, place_within xs c x at)) at
