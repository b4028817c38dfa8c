-- Elements of lists that grow.
use Rattle.std.proofs.Common.{◌≡◌, ℕ, zero, suc, ◌≤◌, ◌⊎◌, List, [], ◌∷◌, ◌++◌, length, map, drop, slice_get, Some, refl, sym, ap, inl, inr}
use Rattle.std.proofs.Common.{arith}
use Rattle.std.specs.List.{Contains}
use Rattle.std.proofs.lemmas.Option.{same_Some}
use Rattle.basis.proofs.Lists.{at_contains, of_mapped}
use Rattle.racebook.proofs.ListLemmas.{contains_at}

-- nothing stands in the empty list
pub nothing_in : {A P : Type 0} (x : A) → Contains [] x → P
nothing_in x has = let p = at_contains [] x has in let q = p.1 in absurd cc

-- what stands among the images is one of an element
pub from_map : {A B : Type 0} (f : A → B) (xs : List A) (y : B) → Contains (map f xs) y → (x : A) × Contains xs x × (f x ≡ y)
from_map f xs y has =
    let p = at_contains (map f xs) y has in
    let m = of_mapped f xs p.0 y p.1 in
    (m.0, contains_at xs p.0 m.0 m.1, m.2)

-- the element at a place is mapped to that at the same place
at_mapped : {A B : Type 0} (f : A → B) (xs : List A) (i : ℕ) (x : A) → slice_get xs i ≡ Some x → Some (f x) ≡ slice_get (map f xs) i
at_mapped f [] i x at = absurd cc
at_mapped f (y ∷ xs) zero x at = ap (λ z. Some (f z)) (sym (same_Some y x at))
at_mapped f (y ∷ xs) (suc i) x at = at_mapped f xs i x at

-- an image of an element
pub to_map : {A B : Type 0} (f : A → B) (xs : List A) (x : A) → Contains xs x → Contains (map f xs) (f x)
to_map f xs x has = let p = at_contains xs x has in contains_at (map f xs) p.0 (f x) (sym (at_mapped f xs p.0 x p.1))

pub no_image : {A B : Type 0} (f : A → B) (xs : List A) → map f xs ≡ [] → xs ≡ []
no_image f [] none = refl
no_image f (x ∷ xs) none = absurd cc

pub none_in_front : {A : Type 0} (xs ys : List A) → xs ++ ys ≡ [] → xs ≡ []
none_in_front [] ys none = refl
none_in_front (x ∷ xs) ys none = absurd cc

pub none_behind : {A : Type 0} (xs ys : List A) → xs ++ ys ≡ [] → ys ≡ []
none_behind [] ys none = none
none_behind (x ∷ xs) ys none = absurd cc

-- in front of what makes one element, there is none, or that one
pub front_of_one : {A : Type 0} (xs ys : List A) (x : A) → xs ++ ys ≡ x ∷ [] → (xs ≡ []) ⊎ (xs ≡ x ∷ [])
front_of_one [] ys x is = inl refl
front_of_one (y ∷ xs) ys x is =
    let first : y ≡ x = same_Some y x (ap (λ l. slice_get l 0) is) in
    let rest : xs ++ ys ≡ [] = ap (drop 1) is in
    inr (λ i. first i ∷ none_in_front xs ys rest i)

-- where there is no second there is one at most
pub at_most_one : {A : Type 0} (xs : List A) → length xs ≤ 1 → (xs ≡ []) ⊎ ((x : A) × (xs ≡ x ∷ []))
at_most_one [] few = inl refl
at_most_one (x ∷ []) few = inr (x, refl)
at_most_one (x ∷ y ∷ xs) few = absurd (omega (arith, few))
