-- A list that is a map of another one, gone through place by place.
use Rattle.std.proofs.Common.{◌≡◌, ℕ, suc, ◌<◌, ◌≤◌, List, [], ◌∷◌, length, map, slice_get, Some, refl, ap, ◌∙◌, arith}

-- up to a place each is that of the other list's
abbrev pub AgreeBelow : {X Y : Type 0} → (Y → X) → List X → List Y → ℕ → Type 0
AgreeBelow {X} {Y} f xs ys n = (i : ℕ) (x : X) (y : Y) → i < n → slice_get xs i ≡ Some x → slice_get ys i ≡ Some y → x ≡ f y

-- where all agree the list is the map
pub agree_all : {X Y : Type 0} (f : Y → X) (xs : List X) (ys : List Y) → length xs ≡ length ys → AgreeBelow f xs ys (length xs) → xs ≡ map f ys
agree_all f [] [] e below = refl
agree_all f [] (y ∷ ys) e below = absurd (omega (arith, e))
agree_all f (x ∷ xs) [] e below = absurd (omega (arith, e))
agree_all f (x ∷ xs) (y ∷ ys) e below =
    ap (λ z. z ∷ xs) (below 0 x y (omega arith) refl refl)
    ∙ ap (λ zs. f y ∷ zs) (agree_all f xs ys (omega (arith, e)) (λ i a b lt at there. below (suc i) a b (omega (arith, lt)) at there))

pub agree_at_end : {X Y : Type 0} (f : Y → X) (xs : List X) (ys : List Y) (n : ℕ) → length xs ≡ length ys → length xs ≤ n → AgreeBelow f xs ys n → xs ≡ map f ys
agree_at_end f xs ys n e end below = agree_all f xs ys e (λ i x y lt. below i x y (omega (arith, lt, end)))
