-- Lists that are mapped, one thing after another.
use Rattle.std.proofs.Common.{◌≡◌, ℕ, ◌+◌, ◌<◌, ◌≤◌, List, [], ◌∷◌, ◌++◌, length, map, drop, get_or, refl, sym, ap, ◌∙◌, subst, inl, inr, append_assoc}
use Rattle.std.proofs.lemmas.List.{append-nil, drop_all}
use Rattle.basis.proofs.Lists.{last_or_before, left_from, of_mapped}
use Rattle.report_text.specs.WellFormed.{Each, EachTwo}

each_more : {A : Type 0} (P : A → Type 0) (xs : List A) (y : A) → Each P xs → P y → Each P (xs ++ y ∷ [])
each_more P xs y each p = λ i x at. elim (last_or_before xs y i x at) [ inl there ↦ each i x there | inr last ↦ subst P last.1 p ]

-- one more of what is mapped, which meets the fact
pub mapped_more : {A B : Type 0} (f : A → B) (P : B → Type 0) (now next : List B) (xs : List A) (i : ℕ) (x : A) (y : B) → x ≡ get_or xs i x → i < length xs → next ≡ now ++ y ∷ [] → y ≡ f x → P y →
    (now ++ map f (drop i xs) ≡ map f xs) × Each P now → (next ++ map f (drop (i + 1) xs) ≡ map f xs) × Each P next
mapped_more f P now next xs i x y is within items made p (so_far, each) = (
  ap (λ zs. zs ++ map f (drop (i + 1) xs)) items ∙ append_assoc now (y ∷ []) (map f (drop (i + 1) xs)) ∙ ap (λ z. now ++ z ∷ map f (drop (i + 1) xs)) made
      ∙ ap (λ zs. now ++ map f zs) (left_from xs i x is within) ∙ so_far,
  subst (Each P) (sym items) (each_more P now y each p),
)

pub each_mapped : {A B : Type 0} (f : A → B) (P : B → Type 0) (xs : List A) → Each (λ x. P (f x)) xs → Each P (map f xs)
each_mapped f P xs each = λ i y at. (let (x, there, is) = of_mapped f xs i y at in subst P is (each i x there))

pub two_mapped : {A B : Type 0} (f : A → B) (P : B → B → Type 0) (xs : List A) → EachTwo (λ x y. P (f x) (f y)) xs → EachTwo P (map f xs)
two_mapped f P xs two = λ i j y z lt at at'.
    let (x, there, is) = of_mapped f xs i y at in
    let (w, there', is') = of_mapped f xs j z at' in
    subst (P y) is' (subst (λ v. P v (f w)) is (two i j x w lt there there'))

-- what is mapped to itself stays
pub mapped_same : {A : Type 0} (xs : List A) → map (λ x. x) xs ≡ xs
mapped_same [] = refl
mapped_same (x ∷ xs) = ap (λ ys. x ∷ ys) (mapped_same xs)

-- all were mapped
pub mapped_over : {A B : Type 0} (f : A → B) (now : List B) (xs : List A) (i : ℕ) → length xs ≤ i → now ++ map f (drop i xs) ≡ map f xs → now ≡ map f xs
mapped_over f now xs i end so_far = sym (append-nil now) ∙ ap (λ ys. now ++ map f ys) (sym (drop_all i xs end)) ∙ so_far
