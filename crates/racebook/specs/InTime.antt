-- *product rule*: What a search that goes by time tells of slots (IEEE 1364-2005, 11.3, 11.4): races and races of lines up to the time
-- that it closed, and the states in which runs end.
use Rattle.std.specs.Prelude.{◌≡◌, ℕ, ◌≤◌, List, length, slice_get, Option, Some, IfSome}
use Rattle.vbits.specs.Vectors.{Vector}
use Rattle.sched_core.specs.Replay.{EndsAfter}
use Rattle.sched_core.specs.Rules.{IsRun}
use Rattle.statebook.specs.declared.limits.Limits.{Limits}
use Rattle.explore.specs.Ranked.{pairs_of}
use Rattle.explore.specs.declared.ranked_findings.RankedStatus.TheVariants.{Exhausted}
use Rattle.vmodel.specs.State.{State}
use Rattle.vmodel.specs.Run.{Setting, rules_of, state_after}
use Rattle.vmachine.specs.declared.machine_state.MachineState.{MachineState}
use Rattle.vmachine.specs.Machines.{Stands}
use Rattle.racebook.specs.Races.{EachRace, Race, ListsEveryValue, ListsValue, SomeRunShows, TwoRunsDiffer}
use Rattle.racebook.specs.LineRaces.{EachLineRace, LineRace, Texts, ListsAllLines, ListsLines, SomeRunPrints, TwoRunsPrint}
use Rattle.racebook.specs.declared.timed_findings.TimedFindings.{TimedFindings}

-- ---- up to a time

-- where two runs differ at a time up to top, the race is listed with every value that any run shows there
abbrev pub ListsEveryValueTo : Setting → ℕ → List Race → ℕ → Type 0
ListsEveryValueTo setting depart races top = (time variable : ℕ) (value : Vector) → time ≤ top →
    TwoRunsDiffer setting depart time variable → SomeRunShows setting depart time variable value →
    ListsValue races time variable value

-- the same of lines
abbrev pub ListsAllLinesTo : Setting → ℕ → List LineRace → ℕ → Type 0
ListsAllLinesTo setting depart races top = (time : ℕ) (lines : Texts) → time ≤ top →
    TwoRunsPrint setting depart time → SomeRunPrints setting depart time lines → ListsLines races time lines

-- ---- ends

-- within the limits the run under the log ends in this state
pub record IsEndOfRun (setting : Setting) (limits : Limits) (end : MachineState × List (ℕ × ℕ)) : Type 0 where
  pub steps : ℕ
  pub ends : EndsAfter (rules_of setting) end.1 steps
  pub stands : Stands setting end.0 (state_after setting end.1 steps)
  pub within : steps ≤ limits.steps
  pub short : length end.1 ≤ limits.depart

-- the fact holds of each
abbrev pub EachEnd : (MachineState × List (ℕ × ℕ) → Type 0) → List (MachineState × List (ℕ × ℕ)) → Type 0
EachEnd P ends = (i : ℕ) (end : MachineState × List (ℕ × ℕ)) → slice_get ends i ≡ Some end → P end

-- no run at all comes to this state with fewer departures than its log
abbrev pub HasFewestToEnd : Setting → MachineState × List (ℕ × ℕ) → Type 0
HasFewestToEnd setting end = (log : List (ℕ × ℕ)) (steps : ℕ) →
    IsRun (rules_of setting) log steps → Stands setting end.0 (state_after setting log steps) → length end.1 ≤ length log

-- the state is kept, under a log of at most so many departures
pub record KeepsEnd (setting : Setting) (ends : List (MachineState × List (ℕ × ℕ))) (state : State) (departures : ℕ) : Type 0 where
  pub place : ℕ
  pub end : MachineState × List (ℕ × ℕ)
  pub at : slice_get ends place ≡ Some end
  pub stands : Stands setting end.0 state
  pub fewest : length end.1 ≤ departures

-- every run of at most so many departures that ends, after however many steps, does so in a state that is kept
abbrev pub KeepsEveryEnd : Setting → ℕ → List (MachineState × List (ℕ × ℕ)) → Type 0
KeepsEveryEnd setting depart ends = (log : List (ℕ × ℕ)) (steps : ℕ) → length log ≤ depart →
    EndsAfter (rules_of setting) log steps → KeepsEnd setting ends (state_after setting log steps) (length log)

-- the same of those that end at a time up to top
abbrev pub KeepsEveryEndTo : Setting → ℕ → List (MachineState × List (ℕ × ℕ)) → ℕ → Type 0
KeepsEveryEndTo setting depart ends top = (log : List (ℕ × ℕ)) (steps : ℕ) → length log ≤ depart →
    EndsAfter (rules_of setting) log steps → (state_after setting log steps).queue.time ≤ top →
    KeepsEnd setting ends (state_after setting log steps) (length log)

-- ---- what is listed is of times that were closed

-- this time was closed: it is the last that was, or one before
abbrev pub IsClosed : Option ℕ → ℕ → Type 0
IsClosed closed time = (top : ℕ) × (closed ≡ Some top) × (time ≤ top)

-- each race, each race of lines and each end is of such a time
pub record ListsOfClosed (setting : Setting) (found : TimedFindings) : Type 0 where
  pub races : EachRace (λ race. IsClosed found.search.closed race.time) found.races.items
  pub line_races : EachLineRace (λ race. IsClosed found.search.closed race.time) found.line_races.items
  pub ends : EachEnd (λ end. (t : State) → Stands setting end.0 t → IsClosed found.search.closed t.queue.time) (pairs_of found.ends.items)

-- ---- the clauses

-- up to the time that was closed every race is listed
abbrev pub ListsRacesTo : Setting → Limits → TimedFindings → Type 0
ListsRacesTo setting limits found = IfSome found.search.closed (ListsEveryValueTo setting limits.depart found.races.items)

-- and every race, where the status says so
abbrev pub ListsRacesThroughout : Setting → Limits → TimedFindings → Type 0
ListsRacesThroughout setting limits found = found.search.status ≡ Exhausted → ListsEveryValue setting limits.depart found.races.items

abbrev pub ListsLineRacesTo : Setting → Limits → TimedFindings → Type 0
ListsLineRacesTo setting limits found = IfSome found.search.closed (ListsAllLinesTo setting limits.depart found.line_races.items)

abbrev pub ListsLineRacesThroughout : Setting → Limits → TimedFindings → Type 0
ListsLineRacesThroughout setting limits found = found.search.status ≡ Exhausted → ListsAllLines setting limits.depart found.line_races.items

abbrev pub KeepsEndsTo : Setting → Limits → TimedFindings → Type 0
KeepsEndsTo setting limits found = IfSome found.search.closed (KeepsEveryEndTo setting limits.depart (pairs_of found.ends.items))

abbrev pub KeepsEndsThroughout : Setting → Limits → TimedFindings → Type 0
KeepsEndsThroughout setting limits found = found.search.status ≡ Exhausted → KeepsEveryEnd setting limits.depart (pairs_of found.ends.items)
