-- The search for the first swap.
use Rattle.std.proofs.Common.{◌≡◌, ℕ, ◌+◌, ◌<◌, ◌≤◌, List, length, Option, Some, None, slice_get, true, false, inl, inr, refl, ap, ◌∙◌, arith, zero, suc, take, [], ◌∷◌}
use Rattle.std.proofs.lemmas.Bool.{cases_lt}
use Rattle.std.proofs.lemmas.Option.{slice_get_past, same_Some}
use Rattle.basis.proofs.Bools.{clash, or_first, or_second}
use Rattle.footprints.specs.declared.visit.Visit.{Visit}
use Rattle.footprints.specs.Visits.{same_visit}
use Rattle.footprints.specs.Swaps.{is_swap, is_swap_of, IsFirstSwap, HasNoSwap, has_come}

no_second : (run parent : List Visit) (i j : ℕ) (found : Option Visit) → is_swap_of run parent i j found None ≡ false
no_second run parent i j None = refl
no_second run parent i j (Some v) = refl

-- past the end of a list there is no swap
pub past_parent : (run parent : List Visit) (i j : ℕ) → length parent ≤ j → is_swap run parent i j ≡ false
past_parent run parent i j le = ap (is_swap_of run parent i j (slice_get run i)) (slice_get_past parent j le) ∙ no_second run parent i j (slice_get run i)

pub past_run : (run parent : List Visit) (i j : ℕ) → length run ≤ i → is_swap run parent i j ≡ false
past_run run parent i j le = ap (λ (v : Option Visit). is_swap_of run parent i j v (slice_get parent j)) (slice_get_past run i le)

-- one place more at which there is none
pub none_from : (run parent : List Visit) (i old new : ℕ) → old ≡ new + 1 → is_swap run parent i new ≡ false →
    ((k : ℕ) → old ≤ k → is_swap run parent i k ≡ false) → (k : ℕ) → new ≤ k → is_swap run parent i k ≡ false
none_from run parent i old new e here none k le =
    elim (cases_lt k old) [
      | inl lt ↦ (let same : k ≡ new = omega (arith, lt, le, e) in ap (is_swap run parent i) same ∙ here)
      | inr ge ↦ none k ge
    ]

pub is_last : (run parent : List Visit) (i old new : ℕ) → old ≡ new + 1 → ((k : ℕ) → old ≤ k → is_swap run parent i k ≡ false) →
    (k : ℕ) → is_swap run parent i k ≡ true → k ≤ new
is_last run parent i old new e none k swap =
    elim (cases_lt k old) [
      | inl lt ↦ omega (arith, lt, e)
      | inr ge ↦ absurd (clash (is_swap run parent i k) swap (none k ge))
    ]

pub none_below : (run parent : List Visit) (i next : ℕ) → next ≡ i + 1 → ((j : ℕ) → is_swap run parent i j ≡ false) →
    ((k j : ℕ) → k < i → is_swap run parent k j ≡ false) → (k j : ℕ) → k < next → is_swap run parent k j ≡ false
none_below run parent i next e here none k j lt =
    elim (cases_lt k i) [
      | inl below ↦ none k j below
      | inr ge ↦ (let same : k ≡ i = omega (arith, lt, ge, e) in ap (λ (n : ℕ). is_swap run parent n j) same ∙ here j)
    ]

pub is_first : (run parent : List Visit) (i j : ℕ) → is_swap run parent i j ≡ true → ((k : ℕ) → is_swap run parent i k ≡ true → k ≤ j) →
    ((k l : ℕ) → k < i → is_swap run parent k l ≡ false) → IsFirstSwap run parent i j
is_first run parent i j swap last none = record {
  swap = swap;
  first = λ k l other. elim (cases_lt k i) [ inl lt ↦ absurd (clash (is_swap run parent k l) other (none k l lt)) | inr ge ↦ ge ];
  last = last;
}

pub none_at_all : (run parent : List Visit) (n : ℕ) → length run ≤ n → ((k l : ℕ) → k < n → is_swap run parent k l ≡ false) → HasNoSwap run parent
none_at_all run parent n le none k l =
    elim (cases_lt k n) [
      | inl lt ↦ none k l lt
      | inr ge ↦ past_run run parent k l (omega (arith, le, ge))
    ]

-- ---- where a visit has come

pub come_by : (v : Visit) (visits : List Visit) (place n : ℕ) (w : Visit) → slice_get visits place ≡ Some w → same_visit v w ≡ true → place < n →
    has_come v (take n visits) ≡ true
come_by v [] place n w e same lt = absurd cc
come_by v (u ∷ us) place zero w e same lt = absurd (omega (arith, lt))
come_by v (u ∷ us) zero (suc n) w e same lt =
    or_first (same_visit v u) (has_come v (take n us)) (ap (same_visit v) (same_Some u w e) ∙ same)
come_by v (u ∷ us) (suc place) (suc n) w e same lt =
    or_second (same_visit v u) (has_come v (take n us)) (come_by v us place n w e same (omega (arith, lt)))

pub no_visit : (run parent : List Visit) (i l : ℕ) → slice_get run i ≡ None → is_swap run parent i l ≡ false
no_visit run parent i l e = ap (λ (found : Option Visit). is_swap_of run parent i l found (slice_get parent l)) e
