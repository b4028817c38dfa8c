-- What the search of a slot hands on is all its ends.
use Rattle.std.proofs.Common.{◌≡◌, ℕ, zero, suc, List, [], ◌∷◌, ◌++◌, map, slice_get, Some, Result, Ok, Err, OnErr, ◌⊎◌, inl, inr, ap}
use Rattle.std.proofs.Common.{append-nil, append_assoc, refl, sym, ◌∙◌, subst}
use Rattle.std.proofs.lemmas.List.{map-append}
use Rattle.std.proofs.lemmas.Option.{none-some, same_Some}
use Rattle.sched_core.specs.Rules.{Rules}
use Rattle.statebook.specs.Covered.{IsCovered}
use Rattle.statebook.specs.declared.limits.Limits.{Limits}
use Rattle.explore.specs.Found.{AreFound, IsFound, IsListedMark}
use Rattle.explore.specs.Ranked.{Closing, CollectsMore, HandsOnFound, StaysAs, WasHandedOn, closing_of, pairs_of}
use Rattle.explore.specs.declared.rank_marks.FoundMark.{FoundMark}
use Rattle.explore.specs.declared.rank_marks.RankMarks.{RankMarks}
use Rattle.matching.specs.Slots.{one_slot}
use Rattle.matching.specs.Inner.BudgetedSlots.{budgeted_slot}
use Rattle.matching.specs.Inner.Candidates.{IsIn}
use Rattle.matching.specs.Inner.FoundEnds.{CollectsEnds, ends_of, marks_of, without_budget}
use Rattle.matching.specs.declared.budgeted_slot.Budgeted.{Budgeted}
use Rattle.matching.specs.declared.found_ends.FoundEnds.{FoundEnds}
use Rattle.matching.proofs.BudgetedRuns.{at_state, run_back, run_forth, state_is}

marks_more : {S : Type 0} (closings : List (Closing S)) (c : Closing S) → marks_of (closings ++ c ∷ []) ≡ marks_of closings ++ c.marks
marks_more [] c = append-nil c.marks
marks_more (d ∷ closings) c =
    ap (λ l. d.marks ++ l) (marks_more closings c) ∙ sym (append_assoc d.marks (marks_of closings) c.marks)

-- the marks of one closing more
pub collects_more : {S : Type 0} (old new : FoundEnds S) (closed : RankMarks (Budgeted S)) →
    new.ends.items ≡ old.ends.items ++ closed.marks.items → CollectsMore CollectsEnds old (closing_of closed) new
collects_more {S} old new closed is first closings kept =
    let marks : List (Budgeted S × List (ℕ × ℕ)) = pairs_of closed.marks.items in
    ap pairs_of is ∙ map-append (λ (m : FoundMark (Budgeted S)). (m.state, m.log)) old.ends.items closed.marks.items ∙
    ap (λ l. l ++ marks) kept ∙ append_assoc (pairs_of first.ends.items) (marks_of closings) marks ∙
    ap (λ l. pairs_of first.ends.items ++ l) (sym (marks_more closings (closing_of closed)))

-- no more was kept
pub collects_same : {S U E : Type 0} (old new : FoundEnds S) (result : Result U E) → new.ends.items ≡ old.ends.items →
    OnErr result (StaysAs CollectsEnds old new)
collects_same old new (Ok u) same = tt
collects_same old new (Err e) same = λ first closings kept. ap pairs_of same ∙ kept

-- where none were kept at first they are the marks of all closings
pub all_kept : {S : Type 0} (first now : FoundEnds S) (closings : List (Closing (Budgeted S))) → first.ends.items ≡ [] →
    CollectsEnds first closings now → pairs_of now.ends.items ≡ marks_of closings
all_kept first now closings none kept = kept ∙ ap (λ l. pairs_of l ++ marks_of closings) none

in_left : {X : Type 0} (xs ys : List X) (y : X) → IsIn xs y → IsIn (xs ++ ys) y
in_left [] ys y at = absurd (none-some y at.1)
in_left (x ∷ xs) ys y (zero, at) = (zero, at)
in_left (x ∷ xs) ys y (suc i, at) =
    let there = in_left xs ys y (i, at) in
    (suc there.0, there.1)

in_right : {X : Type 0} (xs ys : List X) (y : X) → IsIn ys y → IsIn (xs ++ ys) y
in_right [] ys y at = at
in_right (x ∷ xs) ys y at =
    let there = in_right xs ys y at in
    (suc there.0, there.1)

in_either : {X : Type 0} (xs ys : List X) (y : X) → IsIn (xs ++ ys) y → IsIn xs y ⊎ IsIn ys y
in_either [] ys y at = inr at
in_either (x ∷ xs) ys y (zero, at) = inl (zero, at)
in_either (x ∷ xs) ys y (suc i, at) = elim (in_either xs ys y (i, at)) [
  | inl left ↦ inl (suc left.0, left.1)
  | inr right ↦ inr right
]

in_map : {X Y : Type 0} (f : X → Y) (xs : List X) (x : X) → IsIn xs x → IsIn (map f xs) (f x)
in_map f [] x at = absurd (none-some x at.1)
in_map f (z ∷ xs) x (zero, at) = (zero, ap (λ y. Some (f y)) (same_Some z x at))
in_map f (z ∷ xs) x (suc i, at) =
    let there = in_map f xs x (i, at) in
    (suc there.0, there.1)

map_at : {X Y : Type 0} (f : X → Y) (xs : List X) (i : ℕ) (y : Y) → slice_get (map f xs) i ≡ Some y → (x : X) × IsIn xs x × (f x ≡ y)
map_at f [] i y at = absurd (none-some y at)
map_at f (x ∷ xs) zero y at = (x, (zero, refl), same_Some (f x) y at)
map_at f (x ∷ xs) (suc i) y at =
    let there = map_at f xs i y at in
    (there.0, (suc there.1.0, there.1.1), there.2)

-- a mark of a closing is one of all, and the other way round
in_marks : {S : Type 0} (closings : List (Closing S)) (i : ℕ) (c : Closing S) (x : S × List (ℕ × ℕ)) → slice_get closings i ≡ Some c →
    IsIn c.marks x → IsIn (marks_of closings) x
in_marks [] i c x at there = absurd (none-some c at)
in_marks {S} (d ∷ closings) zero c x at there =
    let P : Closing S → Type 0 = λ e. IsIn e.marks x in
    in_left d.marks (marks_of closings) x (subst P (sym (same_Some d c at)) there)
in_marks (d ∷ closings) (suc i) c x at there = in_right d.marks (marks_of closings) x (in_marks closings i c x at there)

record IsInClosing {S : Type 0} (closings : List (Closing S)) (x : S × List (ℕ × ℕ)) : Type 0 where
  pub place : ℕ
  pub closing : Closing S
  pub at : slice_get closings place ≡ Some closing
  pub there : IsIn closing.marks x

from_marks : {S : Type 0} (closings : List (Closing S)) (x : S × List (ℕ × ℕ)) → IsIn (marks_of closings) x → IsInClosing closings x
from_marks [] x at = absurd (none-some x at.1)
from_marks (d ∷ closings) x at = elim (in_either d.marks (marks_of closings) x at) [
  | inl here ↦ record { place = 0; closing = d; at = refl; there = here }
  | inr later ↦ (
      let c = from_marks closings x later in
      record { place = suc c.place; closing = c.closing; at = c.at; there = c.there })
]

module _ {S : Type 0} (r : Rules S) (start : S) (limits : Limits) (closings : List (Closing (Budgeted S)))
    (ends : List (FoundMark (Budgeted S))) (are : pairs_of ends ≡ marks_of closings) where
  found_forth : (p : Budgeted S × List (ℕ × ℕ)) → IsFound (budgeted_slot r start limits.depart) limits p →
      IsFound (one_slot r start) limits (without_budget p)
  found_forth p found = record {
    steps = found.steps;
    run = run_forth r start limits.depart p.1 found.steps found.run;
    at = at_state r start limits.depart p.0 p.1 found.steps found.at;
    mark = found.mark;
    names = found.names;
    within = found.within;
    short = found.short;
  }

  -- each is an end of the slot
  pub ends_found : HandsOnFound (budgeted_slot r start limits.depart) limits closings → AreFound (one_slot r start) limits (ends_of ends)
  ends_found found i e at =
      let x = map_at without_budget (pairs_of ends) i e at in
      let I : List (Budgeted S × List (ℕ × ℕ)) → Type 0 = λ l. IsIn l x.0 in
      let c = from_marks closings x.0 (subst I are x.1) in
      let F : S × List (ℕ × ℕ) → Type 0 = λ p. IsFound (one_slot r start) limits p in
      subst F x.2 (found_forth x.0 (found c.place c.closing c.at c.there.0 x.0 c.there.1))

  -- and they are all
  pub ends_listed : IsCovered (budgeted_slot r start limits.depart) limits.depart
      (WasHandedOn (budgeted_slot r start limits.depart) closings) →
      IsCovered (one_slot r start) limits.depart (IsListedMark (one_slot r start) (ends_of ends))
  ends_listed covered log n short run mark =
      let marked = ap r.mark (state_is r start limits.depart log n) ∙ mark in
      let h = covered log n short (run_back r start limits.depart log n short run) marked in
      let there = in_marks closings h.0 h.1 h.3.found h.2 (h.3.place, h.3.at) in
      let I : List (Budgeted S × List (ℕ × ℕ)) → Type 0 = λ l. IsIn l h.3.found in
      let place = in_map without_budget (pairs_of ends) h.3.found (subst I (sym are) there) in
      record {
        place = place.0;
        found = without_budget h.3.found;
        at = place.1;
        same = at_state r start limits.depart h.3.found.0 log n h.3.same;
        departures = h.3.departures;
      }
