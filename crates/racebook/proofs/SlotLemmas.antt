-- Slots one after the other.
use Rattle.std.proofs.Common.{◌≡◌, ◌≢◌, ℕ, zero, suc, ◌+◌, ◌-◌, ◌<◌, ◌≤◌, ◌⊎◌, List, [], ◌∷◌, length, take, drop, slice_get, get_or, Some, refl, sym, ap, ◌∙◌, inl, inr, arith}
use Rattle.std.proofs.lemmas.Bool.{cases_lt}
use Rattle.std.proofs.lemmas.Option.{slice_get_within, slice_get-get_or, same_Some}
use Rattle.basis.proofs.Lists.{taken_at, at_contains}
use Rattle.racebook.specs.declared.slot_state.SlotState.{SlotState}
use Rattle.racebook.specs.Order.{IsEarlier}
use Rattle.racebook.specs.Inner.{AreAll, AreInTime, AreUpTo, AreWide, DifferIn, DifferInLines, IsSlotEndAt, IsSlotOf}
use Rattle.racebook.proofs.ListLemmas.{contains_at}

-- the slot states before the place are of earlier times
abbrev pub ComeBefore : List SlotState → ℕ → ℕ → Type 0
ComeBefore slot_states start time = (i : ℕ) (g : SlotState) → i < start → slice_get slot_states i ≡ Some g → g.time < time

-- and those from it on aren't
abbrev pub ComeFrom : List SlotState → ℕ → ℕ → Type 0
ComeFrom slot_states start time = (i : ℕ) (g : SlotState) → start ≤ i → slice_get slot_states i ≡ Some g → time ≤ g.time

-- no time stands on both sides of the place
abbrev pub HasGap : List SlotState → ℕ → Type 0
HasGap slot_states start = (i j : ℕ) (g h : SlotState) → i < start → start ≤ j → slice_get slot_states i ≡ Some g → slice_get slot_states j ≡ Some h → g.time < h.time

-- ---- a part of a list

drop_place : {A : Type 0} (s : ℕ) (xs : List A) (k : ℕ) → slice_get (drop s xs) k ≡ slice_get xs (s + k)
drop_place zero xs k = let e : k ≡ 0 + k = omega arith in ap (slice_get xs) e
drop_place (suc s) [] k = refl
drop_place (suc s) (x ∷ xs) k = let e : suc (s + k) ≡ suc s + k = omega arith in drop_place s xs k ∙ ap (slice_get (x ∷ xs)) e

take_keeps : {A : Type 0} (n : ℕ) (xs : List A) (k : ℕ) (x : A) → k < n → slice_get xs k ≡ Some x → slice_get (take n xs) k ≡ Some x
take_keeps zero xs k x lt at = absurd (omega arith)
take_keeps (suc n) [] k x lt at = absurd (cc)
take_keeps (suc n) (y ∷ xs) zero x lt at = at
take_keeps (suc n) (y ∷ xs) (suc k) x lt at = let less : k < n = omega arith in take_keeps n xs k x less at

-- ---- the slot at a place

-- a slot state on the way is of no later time
not_later : (slot_states : List SlotState) (start end : ℕ) (first : SlotState) → IsSlotEndAt slot_states start end → HasGap slot_states start → slice_get slot_states start ≡ Some first →
    (i : ℕ) (g : SlotState) → i < end → slice_get slot_states i ≡ Some g → (g.time < first.time) ⊎ (g.time ≡ first.time)
not_later slot_states start end first is gap at i g lt here = elim (cases_lt i start) [
  | inl before ↦ inl (gap i start g first before (omega arith) here at)
  | inr from ↦ inr (is.same i first g from lt at here)
]

past : (slot_states : List SlotState) (start end : ℕ) (first : SlotState) → IsSlotEndAt slot_states start end → AreInTime slot_states → slice_get slot_states start ≡ Some first →
    (j : ℕ) (h : SlotState) → end ≤ j → slice_get slot_states j ≡ Some h → first.time < h.time
past slot_states start end first is order at j h le there =
    let lt = slice_get_within slot_states j h there in
    let within : end < length slot_states = omega arith in
    let g = get_or slot_states end first in
    let g_at : slice_get slot_states end ≡ Some g = slice_get-get_or slot_states end first within in
    let more = is.more in
    let up : first.time ≤ g.time = order start end first g (omega arith) at g_at in
    let on : g.time ≤ h.time = order end j g h le g_at there in
    let other : g.time ≢ first.time = is.next first g at g_at in
    omega arith

pub slot_of : (slot_states : List SlotState) (start end : ℕ) (first : SlotState) → IsSlotEndAt slot_states start end → AreInTime slot_states → HasGap slot_states start →
    slice_get slot_states start ≡ Some first → IsSlotOf slot_states (take (end - start) (drop start slot_states)) first.time
slot_of slot_states start end first is order gap at = record {
  within = λ g has.
      (let p = at_contains (take (end - start) (drop start slot_states)) g has in
      let q = taken_at (end - start) (drop start slot_states) p.0 g p.1 in
      contains_at slot_states (start + p.0) g (sym (drop_place start slot_states p.0) ∙ q.1));
  time_is = λ g has.
      (let p = at_contains (take (end - start) (drop start slot_states)) g has in
      let q = taken_at (end - start) (drop start slot_states) p.0 g p.1 in
      let lt = q.0 in
      is.same (start + p.0) first g (omega arith) (omega arith) at (sym (drop_place start slot_states p.0) ∙ q.1));
  whole = λ g has same.
      (let p = at_contains slot_states g has in
      let i = p.0 in
      elim (cases_lt i start) [
        | inl before ↦ absurd (let h : g.time < first.time = gap i start g first before (omega arith) p.1 at in omega arith)
        | inr from ↦ elim (cases_lt i end) [
          | inl inside ↦
              let e : start + (i - start) ≡ i = omega arith in
              let k : i - start < end - start = omega arith in
              let there : slice_get (drop start slot_states) (i - start) ≡ Some g = drop_place start slot_states (i - start) ∙ ap (slice_get slot_states) e ∙ p.1 in
              contains_at (take (end - start) (drop start slot_states)) (i - start) g (take_keeps (end - start) (drop start slot_states) (i - start) g k there)
          | inr after ↦ absurd (let h : first.time < g.time = past slot_states start end first is order at i g after p.1 in omega arith)
        ]
      ]);
}

pub gap_on : (slot_states : List SlotState) (start end : ℕ) (first : SlotState) → IsSlotEndAt slot_states start end → AreInTime slot_states → HasGap slot_states start →
    slice_get slot_states start ≡ Some first → HasGap slot_states end
gap_on slot_states start end first is order gap at = λ i j g h lt le here there.
    (let up : first.time < h.time = past slot_states start end first is order at j h le there in
    elim (not_later slot_states start end first is gap at i g lt here) [
      | inl less ↦ omega arith
      | inr same ↦ omega arith
    ])

-- before number 0 of a time stand earlier times alone
earlier_time : (t n time : ℕ) → IsEarlier t n time 0 → t < time
earlier_time t n time (inl lt) = lt
earlier_time t n time (inr same) = absurd (let h = same.1 in omega arith)

abbrev top : List SlotState → ℕ
top [] = 0
top (g ∷ gs) = suc g.time + top gs

below_top : (gs : List SlotState) (i : ℕ) (g : SlotState) → slice_get gs i ≡ Some g → g.time < top gs
below_top [] i g at = absurd (cc)
below_top (h ∷ gs) zero g at = let e : h.time ≡ g.time = ap (λ (x : SlotState). x.time) (same_Some h g at) in omega arith
below_top (h ∷ gs) (suc i) g at = let l = below_top gs i g at in omega arith

-- ---- what slot states differ in

-- what differs does so at the time of a slot state, under a number below this one
pub record IsDifference (slot_states : List SlotState) (count t n : ℕ) : Type 0 where
  pub place : ℕ
  pub slot_state : SlotState
  pub at : slice_get slot_states place ≡ Some slot_state
  pub time_is : slot_state.time ≡ t
  pub below : n < count

pub value_differs : (slot_states : List SlotState) (count : ℕ) → AreWide count slot_states → (t n : ℕ) → DifferIn slot_states t n → IsDifference slot_states count t n
value_differs slot_states count wide t n differ =
    let seen = differ.sees_one in
    let p = at_contains slot_states seen.slot_state seen.among in
    let lt = slice_get_within seen.slot_state.values.now n differ.one seen.value_is in
    let e = wide seen.slot_state seen.among in
    record { place = p.0; slot_state = seen.slot_state; at = p.1; time_is = seen.time_is; below = omega arith }

pub lines_differ : (slot_states : List SlotState) (t n : ℕ) → DifferInLines slot_states t n → IsDifference slot_states 1 t n
lines_differ slot_states t n differ =
    let seen = differ.0.sees_one in
    let p = at_contains slot_states seen.slot_state seen.among in
    let e = differ.1 in
    record { place = p.0; slot_state = seen.slot_state; at = p.1; time_is = seen.time_is; below = omega arith }

-- ---- slot by slot

module _ {R : Type 0} (place : R → ℕ × ℕ) (Is : R → Type 0) (Differ : ℕ → ℕ → Type 0) (slot_states : List SlotState) (count : ℕ)
    (difference : (t n : ℕ) → Differ t n → IsDifference slot_states count t n) where
  pub up_on : (start end : ℕ) (first : SlotState) (races : List R) → IsSlotEndAt slot_states start end → HasGap slot_states start →
      slice_get slot_states start ≡ Some first → AreUpTo place Is Differ races first.time count →
      (time : ℕ) → ComeBefore slot_states end time → ComeFrom slot_states end time → AreUpTo place Is Differ races time 0
  up_on start end first races is gap at up time before from =
      let more = is.more in
      let here : first.time < time = before start first more at in
      record {
        each = up.each;
        before = λ i race there. elim (up.before i race there) [
          | inl less ↦ inl (omega arith)
          | inr same ↦ (let e = same.0 in inl (omega arith))
        ];
        all = λ t n earlier differ. (let lt : t < time = earlier_time t n time earlier in
            let d = difference t n differ in
            let e = d.time_is in
            elim (cases_lt d.place end) [
              | inl inside ↦ elim (not_later slot_states start end first is gap at d.place d.slot_state inside d.at) [
                | inl less ↦ up.all t n (inl (omega arith)) differ
                | inr same ↦ up.all t n (inr (sym e ∙ same, d.below)) differ
              ]
              | inr after ↦ absurd (let h : time ≤ d.slot_state.time = from d.place d.slot_state after d.at in omega arith)
            ]);
        order = up.order;
      }

  pub nothing_yet : (time : ℕ) → ComeFrom slot_states 0 time → AreUpTo place Is Differ [] time 0
  nothing_yet time from = record {
    each = λ i race at. absurd (cc);
    before = λ i race at. absurd (cc);
    all = λ t n earlier differ. absurd (
        let lt : t < time = earlier_time t n time earlier in
        let d = difference t n differ in
        let e = d.time_is in
        let h : time ≤ d.slot_state.time = from d.place d.slot_state (omega arith) d.at in omega arith);
    order = λ i j a b lt at at'. absurd (cc);
  }

  pub at_end : (start : ℕ) (races : List R) → length slot_states ≤ start →
      ((time : ℕ) → ComeBefore slot_states start time → ComeFrom slot_states start time → AreUpTo place Is Differ races time 0) → AreAll place Is Differ races
  at_end start races le up_to =
      let up = up_to (top slot_states) (λ i g lt at. below_top slot_states i g at) (λ i g from at. absurd (let l = slice_get_within slot_states i g at in omega arith)) in
      record {
        each = up.each;
        all = λ t n differ.
            (let d = difference t n differ in
            let e = d.time_is in
            let l = below_top slot_states d.place d.slot_state d.at in
            up.all t n (inl (omega arith)) differ);
        order = up.order;
      }
