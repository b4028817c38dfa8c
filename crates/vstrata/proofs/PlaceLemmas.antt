-- Where a time stands among the future times, and what more becomes of what it holds.
use Rattle.std.proofs.Common.{◌≡◌, ℕ, zero, suc, ◌+◌, ◌<◌, ◌≤◌, length, drop, List, [], ◌∷◌, insert, get_or, refl, sym, ap, subst, ◌∙◌, arith}
use Rattle.std.specs.Prelude.{slice_get, slice_set}
use Rattle.std.proofs.lemmas.Bool.{ne_eqb}
use Rattle.std.proofs.Math.ListN.{drop_of_length-le}
use Rattle.vmodel.specs.Queue.{Later, empty_slot, later_at}
use Rattle.vmodel.proofs.ProcessLemmas.{less, equal, more, compared, is_lt, not_lt, same}
use Rattle.vmodel.specs.Inner.{place_of_time, SomeIs, NoneIs}

-- ---- the place of a time, by the first of them

pub place_behind : (t : ℕ) (e : ℕ × Later) (es : List (ℕ × Later)) → e.0 < t → place_of_time t (e ∷ es) ≡ suc (place_of_time t es)
place_behind t e es lt = rw (is_lt e.0 t lt)

pub place_first : (t : ℕ) (e : ℕ × Later) (es : List (ℕ × Later)) → t ≤ e.0 → place_of_time t (e ∷ es) ≡ 0
place_first t e es le = rw (not_lt e.0 t le)

pub place_within : (t : ℕ) (es : List (ℕ × Later)) → place_of_time t es ≤ length es
place_within t [] = omega arith
place_within t (e ∷ es) = elim (compared e.0 t) [
  | less lt ↦ subst (λ (k : ℕ). k ≤ length (e ∷ es)) (sym (place_behind t e es lt)) (omega (arith, place_within t es))
  | equal is ↦ subst (λ (k : ℕ). k ≤ length (e ∷ es)) (sym (place_first t e es (omega arith))) (omega arith)
  | more gt ↦ subst (λ (k : ℕ). k ≤ length (e ∷ es)) (sym (place_first t e es (omega arith))) (omega arith)
]

-- ---- the same from a place on

from_place : (es : List (ℕ × Later)) (p : ℕ) (e : ℕ × Later) → p < length es → e ≡ get_or es p e → drop p es ≡ e ∷ drop (suc p) es
from_place [] p e lt is = absurd (omega (arith, lt))
from_place (x ∷ xs) zero e lt is = ap (λ (y : ℕ × Later). y ∷ xs) (sym is)
from_place (x ∷ xs) (suc p) e lt is = from_place xs p e (omega (arith, lt)) is

module _ (t : ℕ) (es : List (ℕ × Later)) (p : ℕ) (e : ℕ × Later) (lt : p < length es) (is : e ≡ get_or es p e) where
  -- what stands there is below
  pub place_passed : e.0 < t → p + place_of_time t (drop p es) ≡ place_of_time t es → p + 1 + place_of_time t (drop (p + 1) es) ≡ place_of_time t es
  place_passed below h =
      let next : suc p ≡ p + 1 = omega arith in
      let here : place_of_time t (drop p es) ≡ suc (place_of_time t (drop (suc p) es)) =
      ap (place_of_time t) (from_place es p e lt is) ∙ place_behind t e (drop (suc p) es) below in
      let rest : place_of_time t (drop (p + 1) es) ≡ place_of_time t (drop (suc p) es) = ap (λ (k : ℕ). place_of_time t (drop k es)) (sym next) in
      omega (arith, h, here, rest)

  -- it isn't below
  pub place_found : t ≤ e.0 → p + place_of_time t (drop p es) ≡ place_of_time t es → p ≡ place_of_time t es
  place_found above h =
      let here : place_of_time t (drop p es) ≡ 0 = ap (place_of_time t) (from_place es p e lt is) ∙ place_first t e (drop (suc p) es) above in
      omega (arith, h, here)

-- nothing stands there
pub place_ended : (t : ℕ) (es : List (ℕ × Later)) (p : ℕ) → length es ≤ p → p + place_of_time t (drop p es) ≡ place_of_time t es → p ≡ place_of_time t es
place_ended t es p all h =
    let none : place_of_time t (drop p es) ≡ 0 = ap (place_of_time t) (drop_of_length-le es all) in
    omega (arith, h, none)

pub placed_within : (t k : ℕ) (es : List (ℕ × Later)) → k ≡ place_of_time t es → k ≤ length es
placed_within t k es is = omega (arith, is, place_within t es)

-- ---- more is put to what a time holds

module _ (t : ℕ) (put : Later → Later) where
  pub later_behind : (e : ℕ × Later) (es : List (ℕ × Later)) → e.0 < t → later_at t put (e ∷ es) ≡ e ∷ later_at t put es
  later_behind e es lt = rw (not_lt t e.0 (omega arith), ne_eqb t e.0 (omega arith))

  pub later_here : (e : ℕ × Later) (es : List (ℕ × Later)) → t ≡ e.0 → later_at t put (e ∷ es) ≡ (e.0, put e.1) ∷ es
  later_here e es is = rw (not_lt t e.0 (omega arith), same t e.0 is)

  pub later_before : (e : ℕ × Later) (es : List (ℕ × Later)) → t < e.0 → later_at t put (e ∷ es) ≡ (t, put empty_slot) ∷ e ∷ es
  later_before e es lt = rw (is_lt t e.0 lt)

  set_at : (es : List (ℕ × Later)) (v : ℕ × Later) → SomeIs (λ x. x.0 ≡ t) (slice_get es (place_of_time t es)) →
      v ≡ get_or es (place_of_time t es) v → slice_set es (place_of_time t es) (v.0, put v.1) ≡ later_at t put es
  set_at [] v is read = absurd is
  set_at (e ∷ es) v is read = elim (compared t e.0) [
    | less before ↦
        let first_is : e.0 ≡ t = subst (λ (k : ℕ). SomeIs (λ x. x.0 ≡ t) (slice_get (e ∷ es) k)) (place_first t e es (omega arith)) is in
        absurd (omega arith)
    | equal now ↦
        let place : place_of_time t (e ∷ es) ≡ 0 = place_first t e es (omega arith) in
        let v_is : v ≡ e = subst (λ (k : ℕ). v ≡ get_or (e ∷ es) k v) place read in
        ap (λ (k : ℕ). slice_set (e ∷ es) k (v.0, put v.1)) place
        ∙ ap (λ (w : ℕ × Later). (w.0, put w.1) ∷ es) v_is
        ∙ sym (later_here e es now)
    | more after ↦
        let place : place_of_time t (e ∷ es) ≡ suc (place_of_time t es) = place_behind t e es after in
        let is_there = subst (λ (k : ℕ). SomeIs (λ x. x.0 ≡ t) (slice_get (e ∷ es) k)) place is in
        let read_there = subst (λ (k : ℕ). v ≡ get_or (e ∷ es) k v) place read in
        ap (λ (k : ℕ). slice_set (e ∷ es) k (v.0, put v.1)) place
        ∙ ap (λ (rest : List (ℕ × Later)). e ∷ rest) (set_at es v is_there read_there)
        ∙ sym (later_behind e es after)
  ]

  insert_at : (es : List (ℕ × Later)) → NoneIs (λ x. x.0 ≡ t) (slice_get es (place_of_time t es)) →
      insert es (place_of_time t es) (t, put empty_slot) ≡ later_at t put es
  insert_at [] is = refl
  insert_at (e ∷ es) is = elim (compared t e.0) [
    | less before ↦
        ap (λ (k : ℕ). insert (e ∷ es) k (t, put empty_slot)) (place_first t e es (omega arith)) ∙ sym (later_before e es before)
    | equal now ↦
        let first_is_not = subst (λ (k : ℕ). NoneIs (λ x. x.0 ≡ t) (slice_get (e ∷ es) k)) (place_first t e es (omega arith)) is in
        absurd (first_is_not (sym now))
    | more after ↦
        let place : place_of_time t (e ∷ es) ≡ suc (place_of_time t es) = place_behind t e es after in
        let is_not = subst (λ (k : ℕ). NoneIs (λ x. x.0 ≡ t) (slice_get (e ∷ es) k)) place is in
        ap (λ (k : ℕ). insert (e ∷ es) k (t, put empty_slot)) place
        ∙ ap (λ (rest : List (ℕ × Later)). e ∷ rest) (insert_at es is_not)
        ∙ sym (later_behind e es after)
  ]

  -- the same at a place that was looked for
  pub set_by : (es : List (ℕ × Later)) (k : ℕ) (v w : ℕ × Later) → k ≡ place_of_time t es → SomeIs (λ x. x.0 ≡ t) (slice_get es k) →
      v ≡ get_or es k v → w ≡ (v.0, put v.1) → slice_set es k w ≡ later_at t put es
  set_by es k v w place is read becomes =
      ap (slice_set es k) becomes
      ∙ ap (λ (j : ℕ). slice_set es j (v.0, put v.1)) place
      ∙ set_at es v (subst (λ (j : ℕ). SomeIs (λ x. x.0 ≡ t) (slice_get es j)) place is) (subst (λ (j : ℕ). v ≡ get_or es j v) place read)

  pub insert_by : (es : List (ℕ × Later)) (k : ℕ) (w : ℕ × Later) → k ≡ place_of_time t es → NoneIs (λ x. x.0 ≡ t) (slice_get es k) →
      w ≡ (t, put empty_slot) → insert es k w ≡ later_at t put es
  insert_by es k w place is becomes =
      ap (insert es k) becomes
      ∙ ap (λ (j : ℕ). insert es j (t, put empty_slot)) place
      ∙ insert_at es (subst (λ (j : ℕ). NoneIs (λ x. x.0 ≡ t) (slice_get es j)) place is)
