-- Facts about lists: what stands at a place, as the list grows too, and what is left after it.
use Rattle.std.proofs.Common.{◌≡◌, ◌≢◌, ℕ, ◌+◌, ◌<◌, zero, suc, true, false, ◌==◌, List, [], ◌∷◌, ◌++◌, length, map, get_or, slice_get, take, drop, Some, arith, ap, refl, sym, ◌∙◌, ◌⊎◌, inl, inr, zero-lt-suc, add-one, drop-cons}
use Rattle.std.specs.List.{Contains}
use Rattle.std.proofs.lemmas.Bool.Decides.{nat_tests}
use Rattle.std.proofs.lemmas.Option.{same_Some, slice_get-get_or}
use Rattle.std.proofs.lemmas.List.{drop-drop}

pub empty_from_test : {X : Type 0} (xs : List X) → (length xs == 0) ≡ true → xs ≡ []
empty_from_test [] h = refl
empty_from_test (x ∷ xs) h = absurd (grind (arith, nat_tests))

pub some_from_test : {X : Type 0} (xs : List X) → (length xs == 0) ≡ false → xs ≢ []
some_from_test [] h = λ e. cc
some_from_test (x ∷ xs) h = λ e. cc

-- where one stands among others, there are some
pub longer : {X : Type 0} (xs : List X) (x : X) (more : List X) → 0 < length (xs ++ x ∷ more)
longer [] x more = zero-lt-suc (length more)
longer (y ∷ xs) x more = zero-lt-suc (length (xs ++ x ∷ more))

-- where a place lies within the list, an element stands
pub listed_place : {X : Type 0} (xs : List X) (i : ℕ) → i < length xs → (x : X) × (slice_get xs i ≡ Some x)
listed_place [] i lt = absurd (omega (arith, lt))
listed_place (x ∷ xs) zero lt = (x, refl)
listed_place (x ∷ xs) (suc i) lt = listed_place xs i (omega (arith, lt))

-- where an element stands, the place lies within the list
pub place_within : {X : Type 0} (xs : List X) (i : ℕ) (x : X) → slice_get xs i ≡ Some x → i < length xs
place_within [] i x e = absurd cc
place_within (y ∷ xs) zero x e = omega arith
place_within (y ∷ xs) (suc i) x e = let h : i < length xs = place_within xs i x e in omega (arith, h)

-- what stands in a list stands there when more follows
pub stands_in_front : {X : Type 0} (xs ys : List X) (i : ℕ) (x : X) → slice_get xs i ≡ Some x → slice_get (xs ++ ys) i ≡ Some x
stands_in_front [] ys i x e = absurd cc
stands_in_front (y ∷ xs) ys zero x e = e
stands_in_front (y ∷ xs) ys (suc i) x e = stands_in_front xs ys i x e

-- a place of a list with one more is the last, or was there
pub last_or_before : {X : Type 0} (xs : List X) (y : X) (i : ℕ) (x : X) → slice_get (xs ++ y ∷ []) i ≡ Some x → (slice_get xs i ≡ Some x) ⊎ ((i ≡ length xs) × (y ≡ x))
last_or_before [] y zero x e = inr (refl, same_Some y x e)
last_or_before [] y (suc i) x e = absurd cc
last_or_before (z ∷ xs) y zero x e = inl e
last_or_before (z ∷ xs) y (suc i) x e = elim (last_or_before xs y i x e) [
  | inl there ↦ inl there
  | inr last ↦ inr (ap suc last.0, last.1)
]

-- the one that was put last stands there
pub stands_last : {X : Type 0} (xs : List X) (y : X) → slice_get (xs ++ y ∷ []) (length xs) ≡ Some y
stands_last [] y = refl
stands_last (x ∷ xs) y = stands_last xs y

-- what is left from a place on
pub left_from : {X : Type 0} (xs : List X) (i : ℕ) (x : X) → x ≡ get_or xs i x → i < length xs → x ∷ drop (i + 1) xs ≡ drop i xs
left_from xs i x is within = sym (drop-cons xs i x within ∙ ap (λ y. y ∷ drop (suc i) xs) (sym is) ∙ ap (λ (n : ℕ). x ∷ drop n xs) (sym (add-one i)))

-- one more is passed
pub passed : {X : Type 0} (i : ℕ) (xs : List X) → drop (i + 1) xs ≡ drop 1 (drop i xs)
passed i xs = sym (drop-drop 1 i xs)

-- from where an element stands, it comes first
pub drop_at_place : {X : Type 0} (xs : List X) (i : ℕ) (x : X) → slice_get xs i ≡ Some x → drop i xs ≡ x ∷ drop (suc i) xs
drop_at_place [] zero x e = absurd cc
drop_at_place [] (suc i) x e = absurd cc
drop_at_place (y ∷ xs) zero x e = ap (λ z. z ∷ xs) (same_Some y x e)
drop_at_place (y ∷ xs) (suc i) x e = drop_at_place xs i x e

-- what a list contains stands somewhere in it
pub at_contains : {X : Type 0} (xs : List X) (x : X) → Contains xs x → (i : ℕ) × (slice_get xs i ≡ Some x)
at_contains xs x has = (has.0, slice_get-get_or xs has.0 x has.1 ∙ ap Some has.2)

-- what stands in the first so many stands there in the list
pub taken_at : {X : Type 0} (n : ℕ) (xs : List X) (i : ℕ) (x : X) → slice_get (take n xs) i ≡ Some x → (i < n) × (slice_get xs i ≡ Some x)
taken_at zero xs i x at = absurd (cc)
taken_at (suc n) [] i x at = absurd (cc)
taken_at (suc n) (y ∷ xs) zero x at = (omega arith, at)
taken_at (suc n) (y ∷ xs) (suc i) x at = let h = taken_at n xs i x at in (let lt = h.0 in omega (arith, lt), h.1)

-- what stands in a mapped list comes of what stands there
pub of_mapped : {A B : Type 0} (f : A → B) (xs : List A) (i : ℕ) (y : B) → slice_get (map f xs) i ≡ Some y → (x : A) × (slice_get xs i ≡ Some x) × (f x ≡ y)
of_mapped f [] i y at = absurd cc
of_mapped f (x ∷ xs) zero y at = (x, refl, same_Some (f x) y at)
of_mapped f (x ∷ xs) (suc i) y at = of_mapped f xs i y at
