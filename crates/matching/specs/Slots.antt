-- *product rule*: One slot of a space, and what makes a search of slots stop short.
use Rattle.std.specs.Prelude.{◌≡◌, ℕ, ◌+◌, ◌<◌, ◌≤◌, ◌⊎◌, true, if◌then◌else◌, List, length, slice_get}
use Rattle.std.specs.Prelude.{Some}
use Rattle.sched_core.specs.Rules.{Rules, stands, IsRun, NamesBelow}
use Rattle.statebook.specs.declared.limits.Limits.{Limits}
use Rattle.explore.specs.Found.{HasEntries}
use Rattle.matching.specs.Explained.{NoEndWithin, departures_within}

-- The runs from a state on to the first mark.
abbrev pub one_slot : {S : Type 0} → Rules S → S → Rules S
one_slot r start = record {
  same = r.same;
  first = start;
  width = λ s. if r.mark s then 0 else r.width s;
  mark = r.mark;
  after = r.after;
}

-- The run under the log takes so many steps, which reach all that the log names, and stands at the state.
pub record IsRunTo {S : Type 0} (r : Rules S) (s : S) (log : List (ℕ × ℕ)) (steps : ℕ) : Type 0 where
  pub run : IsRun r log steps
  pub names : NamesBelow log steps
  pub at : r.same s (stands r log steps) ≡ true

-- The runs from some state on, at which a run stands, to the first mark have as many entries as the limit.
pub record SomeSlotHasEntries {S : Type 0} (r : Rules S) (limits : Limits) : Type 0 where
  pub state : S
  pub log : List (ℕ × ℕ)
  pub steps : ℕ
  pub stands : IsRunTo r state log steps
  pub many : HasEntries (one_slot r state) limits

-- Some run stands at the state, the end of a slot.
pub record IsSomeEnd {S : Type 0} (r : Rules S) (s : S) : Type 0 where
  pub log : List (ℕ × ℕ)
  pub steps : ℕ
  pub stands : IsRunTo r s log steps
  pub mark : r.mark s ≡ true

-- There are as many ends of slots as the limit, no two of them equal.
pub record HasEnds {S : Type 0} (r : Rules S) (limits : Limits) : Type 0 where
  pub ends : List S
  pub count : limits.entries ≤ length ends
  pub each : (i : ℕ) (s : S) → slice_get ends i ≡ Some s → IsSomeEnd r s
  pub differ : (i j : ℕ) (s t : S) → i < j → slice_get ends i ≡ Some s → slice_get ends j ≡ Some t →
      r.same s t ≡ true → ⊥

-- Some run takes more steps than the limit in which no slot ends, with no more departures than the limit.
pub record SomeSlotExceeds {S : Type 0} (r : Rules S) (limits : Limits) : Type 0 where
  pub log : List (ℕ × ℕ)
  pub before : ℕ
  pub within : ℕ
  pub run : IsRun r log (before + within)
  pub one : NoEndWithin r log before (before + within)
  pub few : departures_within log before (before + within) ≤ limits.depart
  pub more : limits.steps < within

-- Some run takes more steps than a log can name.
pub record SomeRunIsLong {S : Type 0} (r : Rules S) : Type 0 where
  pub log : List (ℕ × ℕ)
  pub steps : ℕ
  pub run : IsRun r log steps
  pub long : 999999 < steps

-- the reasons to stop short at the limit of entries, and at that of steps
abbrev pub IsFull : {S : Type 0} → Rules S → Limits → Type 0
IsFull r limits = SomeSlotHasEntries r limits ⊎ HasEnds r limits

abbrev pub IsTooLong : {S : Type 0} → Rules S → Limits → Type 0
IsTooLong r limits = SomeSlotExceeds r limits ⊎ SomeRunIsLong r
