-- What visiting the entries of one budget after another keeps.
use Rattle.std.proofs.Common.{◌≡◌, ◌≢◌, ℕ, ◌+◌, ◌-◌, ◌<◌, ◌≤◌, Bool, true, false, length, slice_get, Some, arith, ap, sym, ◌∙◌, subst, inl, inr}
use Rattle.std.proofs.lemmas.Bool.{cases_lt}
use Rattle.std.proofs.lemmas.Option.{same_Some, slice_get_within}
use Rattle.basis.proofs.Lists.{listed_place}
use Rattle.sched_core.specs.Rules.{Rules}
use Rattle.statebook.specs.Books.{Book, IsFinished}
use Rattle.statebook.specs.declared.entry.Entry.{Entry}
use Rattle.statebook.specs.declared.limits.Limits.{Limits}
use Rattle.explore.specs.BookFindings.{AllChoicesLeadOn, AllLeadOn, IsBounded, SomeChoiceGoesPast, SomeWayGoesPast}
use Rattle.explore.specs.Inner.Exploring.{AddsFew, AllVisited, AreEntries, BookGrows, FinishedAt, GrowsFrom, LeadsOnAt, VisitedAt, WasVisited, width_limit}
use Rattle.explore.proofs.VisitLemmas.{grows_twice, leads_later, still_there, true_not_false}

-- Of each place that has an entry of at least this budget it is true.
abbrev pub EachFrom : {S : Type 0} → (ℕ → Type 0) → Book S → ℕ → Type 0
EachFrom {S} P b budget = (i : ℕ) (e : Entry S) → slice_get b.entries i ≡ Some e → budget ≤ e.budget → P i

-- Of each place before this one that has an entry of this budget it is true.
abbrev pub EachUpTo : {S : Type 0} → (ℕ → Type 0) → Book S → ℕ → ℕ → Type 0
EachUpTo {S} P b budget place = (i : ℕ) (e : Entry S) → i < place → slice_get b.entries i ≡ Some e → e.budget ≡ budget → P i

-- how far a class has come
pub record InClass {S : Type 0} (r : Rules S) (limits : Limits) (start now : Book S) (budget place : ℕ) (within : Bool) : Type 0 where
  pub few : length now.entries ≤ limits.entries + width_limit
  pub bounded : IsBounded r limits.entries now.entries
  pub grows : BookGrows start now budget
  pub finished : within ≡ true → EachUpTo (IsFinished now) now budget place
  pub visited : EachUpTo (WasVisited r limits now.entries) now budget place
  pub past : within ≡ false → SomeWayGoesPast r limits now.entries

-- what a visit of the entry at the place makes of the book
pub record Visits {S : Type 0} (r : Rules S) (limits : Limits) (now : Book S) (place : ℕ) (new : Book S) : Type 0 where
  pub entry : Entry S
  pub at : slice_get now.entries place ≡ Some entry
  pub fewer : length now.entries < limits.entries
  pub grows : GrowsFrom now new place
  pub few : AddsFew r now place new
  pub narrow : length new.entries < length now.entries + width_limit
  pub leads : LeadsOnAt r limits new place

one_later : {S : Type 0} (P Q : ℕ → Type 0) (old new : Book S) (budget place : ℕ) → BookGrows old new budget → ((i : ℕ) → P i → Q i) → place < length old.entries → EachUpTo P old budget place → EachUpTo Q new budget place
one_later {S} P Q old new budget place g on lt h i e less at same =
    let x = listed_place old.entries i (omega (arith, less, lt)) in
    let itself : x.0 ≡ e = still_there old new budget i x.0 e g x.1 at in
    let T : Entry S → Type 0 = λ f. slice_get old.entries i ≡ Some f in
    on i (h i e less (subst T itself x.1) same)

-- it is true of one place more
pub one_more : {S : Type 0} (P Q : ℕ → Type 0) (old new : Book S) (budget place : ℕ) → BookGrows old new budget → ((i : ℕ) → P i → Q i) → place < length old.entries → EachUpTo P old budget place → Q place → EachUpTo Q new budget (place + 1)
one_more {S} P Q old new budget place g on lt h here i e less at same = elim (cases_lt i place) [
  | inl before ↦ one_later P Q old new budget place g on lt h i e before at same
  | inr ge ↦ (
      let it : place ≡ i = omega (arith, ge, less) in
      subst Q it here)
]

-- the entry at the place has another budget
pub one_other : {S : Type 0} (P : ℕ → Type 0) (b : Book S) (budget place : ℕ) (x : Entry S) → slice_get b.entries place ≡ Some x → x.budget ≢ budget → EachUpTo P b budget place → EachUpTo P b budget (place + 1)
one_other {S} P b budget place x there other h i e less at same = elim (cases_lt i place) [
  | inl before ↦ h i e before at same
  | inr ge ↦ (
      let T : ℕ → Type 0 = λ p. slice_get b.entries p ≡ Some e in
      let here : i ≡ place = omega (arith, ge, less) in
      let itself : x ≡ e = same_Some x e (sym there ∙ subst T here at) in
      absurd (other (ap (λ f. f.budget) itself ∙ same)))
]

pub visited_later : {S : Type 0} (r : Rules S) (limits : Limits) (old new : Book S) (budget : ℕ) → BookGrows old new budget → (i : ℕ) → WasVisited r limits old.entries i → WasVisited r limits new.entries i
visited_later r limits old new budget g i v = record {
  entry = v.entry;
  at = g.stays i v.entry v.at;
  leads = λ c lt. leads_later r limits old new budget v.entry c g (v.leads c lt);
  fewer = v.fewer;
}

-- a way that goes past the limit does so as the book grows
pub past_later : {S : Type 0} (r : Rules S) (limits : Limits) (old new : Book S) (budget : ℕ) → BookGrows old new budget → SomeWayGoesPast r limits old.entries → SomeWayGoesPast r limits new.entries
past_later r limits old new budget g w = record { place = w.place; entry = w.entry; at = g.stays w.place w.entry w.at; past = w.past }

visited_now : {S : Type 0} (r : Rules S) (limits : Limits) (now : Book S) (place : ℕ) (new : Book S) → Visits r limits now place new → WasVisited r limits new.entries place
visited_now r limits now place new v = record {
  entry = v.entry;
  at = (v.grows v.entry v.at).stays place v.entry v.at;
  leads = v.leads v.entry ((v.grows v.entry v.at).stays place v.entry v.at);
  fewer = omega (arith, v.fewer, slice_get_within now.entries place v.entry v.at);
}

-- the visit of an entry leaves room, whether or not it came to an end
pub bounded_now : {S : Type 0} (r : Rules S) (limits : Limits) (now : Book S) (place : ℕ) (new : Book S) (e : Entry S) → slice_get now.entries place ≡ Some e → length now.entries < limits.entries → GrowsFrom now new place → AddsFew r now place new → IsBounded r limits.entries new.entries
bounded_now r limits now place new e at fewer grows few = record {
  place = place;
  entry = e;
  at = (grows e at).stays place e at;
  few = omega (arith, few e at, fewer);
}

grows_at : {S : Type 0} (r : Rules S) (limits : Limits) (now : Book S) (place : ℕ) (new : Book S) (budget : ℕ) → (v : Visits r limits now place new) → v.entry.budget ≡ budget → BookGrows now new budget
grows_at r limits now place new budget v same = subst (λ n. BookGrows now new n) same (v.grows v.entry v.at)

-- the entry at the place was visited, and is finished
pub class_finished : {S : Type 0} (r : Rules S) (limits : Limits) (start now new : Book S) (budget place : ℕ) (within : Bool) → InClass r limits start now budget place within → (v : Visits r limits now place new) → v.entry.budget ≡ budget → IsFinished new place → InClass r limits start new budget (place + 1) within
class_finished r limits start now new budget place within s v same f =
    let g = grows_at r limits now place new budget v same in
    let lt = slice_get_within now.entries place v.entry v.at in
    record {
      few = omega (arith, v.narrow, v.fewer);
      bounded = bounded_now r limits now place new v.entry v.at v.fewer v.grows v.few;
      grows = grows_twice start now new budget s.grows g;
      finished = λ t. one_more (IsFinished now) (IsFinished new) now new budget place g (λ i done. (done.0, g.done i done.0 done.1)) lt (s.finished t) f;
      visited = one_more (WasVisited r limits now.entries) (WasVisited r limits new.entries) now new budget place g (visited_later r limits now new budget g) lt s.visited (visited_now r limits now place new v);
      past = λ t. past_later r limits now new budget g (s.past t);
    }

-- the entry at the place was visited, and is not finished
pub class_cut : {S : Type 0} (r : Rules S) (limits : Limits) (start now new : Book S) (budget place : ℕ) (within : Bool) → InClass r limits start now budget place within → (v : Visits r limits now place new) → v.entry.budget ≡ budget → ((e : Entry S) → slice_get new.entries place ≡ Some e → SomeChoiceGoesPast r limits e) → InClass r limits start new budget (place + 1) false
class_cut r limits start now new budget place within s v same p =
    let g = grows_at r limits now place new budget v same in
    let lt = slice_get_within now.entries place v.entry v.at in
    record {
      few = omega (arith, v.narrow, v.fewer);
      bounded = bounded_now r limits now place new v.entry v.at v.fewer v.grows v.few;
      grows = grows_twice start now new budget s.grows g;
      finished = λ t. absurd (true_not_false (sym t));
      visited = one_more (WasVisited r limits now.entries) (WasVisited r limits new.entries) now new budget place g (visited_later r limits now new budget g) lt s.visited (visited_now r limits now place new v);
      past = λ t. record { place = place; entry = v.entry; at = g.stays place v.entry v.at; past = p v.entry (g.stays place v.entry v.at) };
    }

-- the entry at the place has another budget
pub class_skipped : {S : Type 0} (r : Rules S) (limits : Limits) (start now : Book S) (budget place : ℕ) (within : Bool) (x : Entry S) → InClass r limits start now budget place within → slice_get now.entries place ≡ Some x → x.budget ≢ budget → InClass r limits start now budget (place + 1) within
class_skipped r limits start now budget place within x s at other = record {
  few = s.few;
  bounded = s.bounded;
  grows = s.grows;
  finished = λ t. one_other (IsFinished now) now budget place x at other (s.finished t);
  visited = one_other (WasVisited r limits now.entries) now budget place x at other s.visited;
  past = s.past;
}

-- a whole class was gone through
pub class_done : {S : Type 0} (r : Rules S) (limits : Limits) (start now : Book S) (budget place : ℕ) (within : Bool) → InClass r limits start now budget place within → length now.entries ≤ place → within ≡ true → FinishedAt now budget
class_done r limits start now budget place within s le t i e at same =
    s.finished t i e (omega (arith, slice_get_within now.entries i e at, le)) at same

pub class_visited : {S : Type 0} (r : Rules S) (limits : Limits) (start now : Book S) (budget place : ℕ) (within : Bool) → InClass r limits start now budget place within → length now.entries ≤ place → VisitedAt r limits now budget
class_visited r limits start now budget place within s le i e at same =
    s.visited i e (omega (arith, slice_get_within now.entries i e at, le)) at same

-- no entry has more departures left than the limit
pub none_over : {S : Type 0} (P : ℕ → Type 0) (r : Rules S) (limits : Limits) (b : Book S) (budget : ℕ) → AreEntries r limits b → limits.depart < budget → EachFrom P b budget
none_over P r limits b budget u lt i e at le = absurd (omega (arith, (u i e at).budget, lt, le))

-- with a class more, it is true from its budget on
pub from_next : {S : Type 0} (P Q : ℕ → Type 0) (old new : Book S) (before budget after : ℕ) → before ≡ budget + 1 → after ≡ budget → ((i : ℕ) → P i → Q i) → BookGrows old new budget → EachFrom P old before → ((i : ℕ) (e : Entry S) → slice_get new.entries i ≡ Some e → e.budget ≡ budget → Q i) → EachFrom Q new after
from_next P Q old new before budget after next here on g h now i e at le = elim (cases_lt budget e.budget) [
  | inl more ↦ elim (g.lower i e at) [
    | inl there ↦ on i (h i e there (omega (arith, more, next)))
    | inr low ↦ absurd (omega (arith, low, more))
  ]
  | inr ge ↦ now i e at (omega (arith, le, ge, here))
]

-- where each entry was visited, each leads on
pub all_lead_on : {S : Type 0} (r : Rules S) (limits : Limits) (b : Book S) → AllVisited r limits b → AllLeadOn r limits b.entries
all_lead_on {S} r limits b visited i e at =
    let v = visited i e at in
    let P : Entry S → Type 0 = λ x. AllChoicesLeadOn r limits b.entries x in
    subst P (same_Some v.entry e (sym v.at ∙ at)) v.leads

-- and there are fewer entries than the limit, as there were when the last was taken
pub fewer_entries : {S : Type 0} (r : Rules S) (limits : Limits) (b : Book S) → 0 < length b.entries → AllVisited r limits b → length b.entries < limits.entries
fewer_entries r limits b some visited =
    let last : ℕ = length b.entries - 1 in
    let e = listed_place b.entries last (omega (arith, some)) in
    omega (arith, (visited last e.0 e.1).fewer, some)
