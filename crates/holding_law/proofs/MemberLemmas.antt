-- Numbers that stand in lists.
use Rattle.std.proofs.Common.{◌≡◌, ◌≢◌, ◌⊎◌, inl, inr, ℕ, zero, suc, ◌≤◌, ◌==◌, true, List, [], ◌∷◌, refl, sym, subst, ◌∙◌, arith}
use Rattle.std.specs.List.{Contains}
use Rattle.std.proofs.lemmas.Bool.{ne_eqb}
use Rattle.std.proofs.lemmas.Bool.Decides.{eqb_tells, nat_tests}
use Rattle.vmodel.specs.Queue.{without_process}
use Rattle.vmodel.specs.Choices.{free_among}
use Rattle.vmodel.specs.Kept.{count_in}

abbrev pub IsIn : ℕ → List ℕ → Type 0
IsIn p [] = ⊥
IsIn p (q ∷ qs) = (p ≡ q) ⊎ IsIn p qs

-- a number, and the first of a list
data Meets (p q : ℕ) (qs : List ℕ) : Type 0 where
  alike : p ≡ q → count_in p (q ∷ qs) ≡ suc (count_in p qs) → without_process p (q ∷ qs) ≡ without_process p qs → Meets p q qs
  unlike : p ≢ q → count_in p (q ∷ qs) ≡ count_in p qs → without_process p (q ∷ qs) ≡ q ∷ without_process p qs → Meets p q qs

meets : (p q : ℕ) (qs : List ℕ) → Meets p q qs
meets p q qs = elim (eqb_tells p q) [
  | inl h ↦ alike h.1 (rw (equal h.1)) (rw (equal h.1))
  | inr h ↦ unlike h.1 (rw (ne_eqb p q h.1)) (rw (ne_eqb p q h.1))
]
  where
    equal : p ≡ q → (p == q) ≡ true
    equal h = grind (arith, nat_tests)

-- ---- the same, by how often, and by place

pub in_counts : (p : ℕ) (qs : List ℕ) → IsIn p qs → 1 ≤ count_in p qs
in_counts p [] h = absurd h
in_counts p (q ∷ qs) (inl e) = elim (meets p q qs) [
  | alike same count rest ↦ omega (arith, count)
  | unlike ne count rest ↦ absurd (ne e)
]
in_counts p (q ∷ qs) (inr h) = elim (meets p q qs) [
  | alike same count rest ↦ omega (arith, count)
  | unlike ne count rest ↦ omega (arith, count, in_counts p qs h)
]

pub counts_in : (p : ℕ) (qs : List ℕ) → 1 ≤ count_in p qs → IsIn p qs
counts_in p [] some = absurd (omega (arith, some))
counts_in p (q ∷ qs) some = elim (meets p q qs) [
  | alike same count rest ↦ inl same
  | unlike ne count rest ↦ inr (counts_in p qs (omega (arith, some, count)))
]

pub contains_in : (p : ℕ) (qs : List ℕ) → Contains qs p → IsIn p qs
contains_in p [] h = absurd (omega (arith, h.1))
contains_in p (q ∷ qs) (zero, lt, is) = inl (sym is)
contains_in p (q ∷ qs) (suc k, lt, is) = inr (contains_in p qs (k, omega (arith, lt), is))

pub in_contains : (p : ℕ) (qs : List ℕ) → IsIn p qs → Contains qs p
in_contains p [] h = absurd h
in_contains p (q ∷ qs) (inl e) = (0, omega arith, sym e)
in_contains p (q ∷ qs) (inr h) = let rest = in_contains p qs h in (suc rest.0, omega (arith, rest.1), rest.2)

-- ---- lists with one number less, or some

pub in_left : (p r : ℕ) (qs : List ℕ) → IsIn r (without_process p qs) → (r ≢ p) × IsIn r qs
in_left p r [] h = absurd h
in_left p r (q ∷ qs) h = elim (meets p q qs) [
  | alike same count rest ↦ (let left = in_left p r qs (subst (IsIn r) rest h) in (left.0, inr left.1))
  | unlike ne count rest ↦
      (let now : (r ≡ q) ⊎ IsIn r (without_process p qs) = subst (IsIn r) rest h in
      elim now [
        | inl e ↦ ((λ same. ne (sym same ∙ e)), inl e)
        | inr later ↦ (let left = in_left p r qs later in (left.0, inr left.1))
      ])
]

pub in_still : (p r : ℕ) (qs : List ℕ) → r ≢ p → IsIn r qs → IsIn r (without_process p qs)
in_still p r [] ne h = absurd h
in_still p r (q ∷ qs) ne (inl e) = elim (meets p q qs) [
  | alike same count rest ↦ absurd (ne (e ∙ sym same))
  | unlike differ count rest ↦ subst (IsIn r) (sym rest) (inl e)
]
in_still p r (q ∷ qs) ne (inr h) = elim (meets p q qs) [
  | alike same count rest ↦ subst (IsIn r) (sym rest) (in_still p r qs ne h)
  | unlike differ count rest ↦ subst (IsIn r) (sym rest) (inr (in_still p r qs ne h))
]

-- what is active and not held back
pub in_free : (p : ℕ) (held active : List ℕ) → IsIn p (free_among held active) → IsIn p active × (IsIn p held → ⊥)
in_free p [] active h = (h, λ none. none)
in_free p (one ∷ held) active h =
    let rest = in_free p held (without_process one active) h in
    let left = in_left one p active rest.0 in
    (left.1, λ (some : (p ≡ one) ⊎ IsIn p held). elim some [ inl e ↦ left.0 e | inr later ↦ rest.1 later ])

pub none_in : (qs : List ℕ) → ((p : ℕ) → IsIn p qs → ⊥) → qs ≡ []
none_in [] none = refl
none_in (q ∷ qs) none = absurd (none q (inl refl))
