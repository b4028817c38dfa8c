-- *product rule*: What compares texts with the one that is expected. Only `rest_behind` has to be believed.
use Rattle.std.proofs.Common.{◌≡◌, ℕ, ◌==◌, Bool, true, if◌then◌else◌, List, [], ◌∷◌, ◌++◌, Option, Some, None, refl, sym, ap, ◌∙◌, inl, inr, arith}
use Rattle.std.proofs.lemmas.Bool.{cases_Bool}
use Rattle.std.proofs.lemmas.List.{append-nil}
use Rattle.std.proofs.lemmas.Bool.Decides.{nat_tests}
use Rattle.byte_sinks.specs.ByteSinks.{IsByteSink}

-- what is left of an expected text once this one was taken off its front; none where it doesn't begin so
abbrev pub rest_behind : List ℕ → Option (List ℕ) → Option (List ℕ)
rest_behind text None = None
rest_behind [] (Some rest) = Some rest
rest_behind (c ∷ cs) (Some []) = None
rest_behind (c ∷ cs) (Some (d ∷ ds)) = if c == d then rest_behind cs (Some ds) else None

abbrev pub Strips : Option (List ℕ) → List ℕ → Option (List ℕ) → Type 0
Strips old text new = new ≡ rest_behind text old

-- a text leaves nothing of an expected one
abbrev pub IsWhole : List ℕ → List ℕ → Type 0
IsWhole text expected = rest_behind text (Some expected) ≡ Some []

-- nothing is taken off
rest_behind_none : (rest : Option (List ℕ)) → rest_behind [] rest ≡ rest
rest_behind_none None = refl
rest_behind_none (Some rest) = refl

-- texts come joined
rest_behind_joins : (xs ys : List ℕ) (rest : Option (List ℕ)) → rest_behind (xs ++ ys) rest ≡ rest_behind ys (rest_behind xs rest)
rest_behind_joins xs ys None = refl
rest_behind_joins [] ys (Some rest) = refl
rest_behind_joins (x ∷ xs) ys (Some []) = refl
rest_behind_joins (x ∷ xs) ys (Some (d ∷ ds)) = elim (cases_Bool (x == d)) [
  | inl same ↦ ap (λ (b : Bool). if b then rest_behind (xs ++ ys) (Some ds) else None) same
      ∙ rest_behind_joins xs ys (Some ds)
      ∙ sym (ap (λ (b : Bool). rest_behind ys (if b then rest_behind xs (Some ds) else None)) same)
  | inr other ↦ ap (λ (b : Bool). if b then rest_behind (xs ++ ys) (Some ds) else None) other
      ∙ sym (ap (λ (b : Bool). rest_behind ys (if b then rest_behind xs (Some ds) else None)) other)
]

pub expected_laws : {F : Type 0} → IsByteSink Strips (λ old text (fault : F) new. ⊥)
expected_laws = record {
  none = λ s. sym (rest_behind_none s);
  joins = λ s t u xs ys p q. q ∙ ap (rest_behind ys) p ∙ sym (rest_behind_joins xs ys s);
  fails_later = λ s t u xs ys fault p never. never;
  fails_before = λ s u xs ys fault never. never;
}

-- a text is taken off where the expected one begins with it
pub rest_behind_front : (text rest : List ℕ) → rest_behind text (Some (text ++ rest)) ≡ Some rest
rest_behind_front [] rest = refl
rest_behind_front (c ∷ cs) rest =
    let same : (c == c) ≡ true = grind (arith, nat_tests) in
    ap (λ (b : Bool). if b then rest_behind cs (Some (cs ++ rest)) else None) same ∙ rest_behind_front cs rest

same_when : (c d : ℕ) → (c == d) ≡ true → c ≡ d
same_when c d h = grind (arith, nat_tests)

-- and there alone
pub only_front : (text expected rest : List ℕ) → rest_behind text (Some expected) ≡ Some rest → expected ≡ text ++ rest
only_front [] expected rest is = cc
only_front (c ∷ cs) [] rest is = absurd cc
only_front (c ∷ cs) (d ∷ ds) rest is = elim (cases_Bool (c == d)) [
  | inl same ↦ ap (λ (e : ℕ). e ∷ ds) (sym (same_when c d same))
      ∙ ap (λ (es : List ℕ). c ∷ es) (only_front cs ds rest (sym (ap (λ (b : Bool). if b then rest_behind cs (Some ds) else None) same) ∙ is))
  | inr other ↦ (let none : None ≡ Some rest = sym (ap (λ (b : Bool). if b then rest_behind cs (Some ds) else None) other) ∙ is in absurd cc)
]

-- just the expected text leaves nothing
pub whole_is_left : (text expected : List ℕ) → text ≡ expected → IsWhole text expected
whole_is_left text expected is =
    ap (λ (xs : List ℕ). rest_behind text (Some xs)) (sym is ∙ sym (append-nil text)) ∙ rest_behind_front text []

pub left_is_whole : (text expected : List ℕ) → IsWhole text expected → text ≡ expected
left_is_whole text expected is = sym (only_front text expected [] is ∙ append-nil text)
