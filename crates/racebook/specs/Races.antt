-- *product rule*: Races: clause 11 of IEEE 1364-2005 leaves the order of events open (11.4.1, 11.4.2). Where two runs of one setting, which
-- differ in this order alone, have two values of a variable at the end of one time slot, that is a race.
use Rattle.std.specs.Prelude.{◌≡◌, ◌≢◌, ℕ, ◌<◌, ◌≤◌, List, length, slice_get, Some}
use Rattle.vbits.specs.Vectors.{Vector}
use Rattle.sched_core.specs.Rules.{IsRun, NamesBelow}
use Rattle.statebook.specs.declared.limits.Limits.{Limits}
use Rattle.explore.specs.declared.findings.Findings.{Findings}
use Rattle.explore.specs.declared.findings.Status.TheVariants.{Exhausted}
use Rattle.explore.specs.Found.{ListsFound, ListsAll}
use Rattle.vmodel.specs.State.{State}
use Rattle.vmodel.specs.Run.{Setting, rules_of, state_after}
use Rattle.vmodel.specs.SlotEnds.{IsSlotEnd}
use Rattle.vmachine.specs.declared.machine_state.MachineState.{MachineState}
use Rattle.vmachine.specs.Machines.{Stands, machine_rules}
use Rattle.racebook.specs.Order.{IsEarlier, AreInTextOrder}

-- after so many steps the run under the log is at the end of the slot of this time, where the variable has this value
pub record ShowsValue (setting : Setting) (time variable : ℕ) (value : Vector) (log : List (ℕ × ℕ)) (steps : ℕ) : Type 0 where
  pub run : IsRun (rules_of setting) log steps
  pub values : List Vector
  pub slot : IsSlotEnd time values (state_after setting log steps)
  pub value_is : slice_get values variable ≡ Some value

-- so it is within the limits, once the run has reached all that the log names
pub record IsWitness (setting : Setting) (limits : Limits) (time variable : ℕ) (value : Vector) (log : List (ℕ × ℕ)) : Type 0 where
  pub steps : ℕ
  pub shown : ShowsValue setting time variable value log steps
  pub within : steps ≤ limits.steps
  pub names : NamesBelow log steps
  pub short : length log ≤ limits.depart

-- a time, the number of a variable, and values, each with the departures of a run
pub record Race : Type 0 where
  pub time : ℕ
  pub variable : ℕ
  pub values : List (Vector × List (ℕ × ℕ))

-- no two of the values are the same
abbrev pub AreDifferent : List (Vector × List (ℕ × ℕ)) → Type 0
AreDifferent values = (i j : ℕ) (s t : Vector × List (ℕ × ℕ)) →
    i < j → slice_get values i ≡ Some s → slice_get values j ≡ Some t → s.0 ≢ t.0

-- two or more different values, each seen under its log
pub record IsRace (setting : Setting) (limits : Limits) (race : Race) : Type 0 where
  pub two : 2 ≤ length race.values
  pub differ : AreDifferent race.values
  pub seen : (i : ℕ) (s : Vector × List (ℕ × ℕ)) → slice_get race.values i ≡ Some s →
      IsWitness setting limits race.time race.variable s.0 s.1

-- the fact holds of each race of the list
abbrev pub EachRace : (Race → Type 0) → List Race → Type 0
EachRace P races = (i : ℕ) (race : Race) → slice_get races i ≡ Some race → P race

-- some run of at most so many departures shows the value
pub record SomeRunShows (setting : Setting) (depart time variable : ℕ) (value : Vector) : Type 0 where
  pub log : List (ℕ × ℕ)
  pub steps : ℕ
  pub shown : ShowsValue setting time variable value log steps
  pub short : length log ≤ depart

-- two such runs show different values
pub record TwoRunsDiffer (setting : Setting) (depart time variable : ℕ) : Type 0 where
  pub one : Vector
  pub other : Vector
  pub shows_one : SomeRunShows setting depart time variable one
  pub shows_other : SomeRunShows setting depart time variable other
  pub differ : one ≢ other

-- a race of the list has this time, this variable, and among its values this one
pub record ListsValue (races : List Race) (time variable : ℕ) (value : Vector) : Type 0 where
  pub place : ℕ
  pub race : Race
  pub at : slice_get races place ≡ Some race
  pub time_is : race.time ≡ time
  pub variable_is : race.variable ≡ variable
  pub value_place : ℕ
  pub witness : Vector × List (ℕ × ℕ)
  pub value_at : slice_get race.values value_place ≡ Some witness
  pub value_is : witness.0 ≡ value

-- where two runs differ, the race is listed with every value that any run shows there
abbrev pub ListsEveryValue : Setting → ℕ → List Race → Type 0
ListsEveryValue setting depart races = (time variable : ℕ) (value : Vector) →
    TwoRunsDiffer setting depart time variable → SomeRunShows setting depart time variable value →
    ListsValue races time variable value

-- no run at all shows the value, at this time, with fewer departures than its log
abbrev pub HasFewest : Setting → Race → Type 0
HasFewest setting race = (i : ℕ) (s : Vector × List (ℕ × ℕ)) (log : List (ℕ × ℕ)) (steps : ℕ) →
    slice_get race.values i ≡ Some s → ShowsValue setting race.time race.variable s.0 log steps → length s.1 ≤ length log

-- races stand in the order of time, then of variable, each time and variable once
abbrev pub AreRacesInOrder : List Race → Type 0
AreRacesInOrder races = (i j : ℕ) (a b : Race) →
    i < j → slice_get races i ≡ Some a → slice_get races j ≡ Some b → IsEarlier a.time a.variable b.time b.variable

-- the values of each race stand in the order of their texts
abbrev pub AreValuesInOrder : List Race → Type 0
AreValuesInOrder races = EachRace (λ race. AreInTextOrder race.values) races

-- ---- what the marks show, whatever the status

-- a mark stands for the end of the slot of this time, where the variable has this value, under this log
pub record IsMarked (setting : Setting) (findings : Findings MachineState) (time variable : ℕ) (value : Vector) (log : List (ℕ × ℕ)) : Type 0 where
  pub place : ℕ
  pub found : MachineState × List (ℕ × ℕ)
  pub at : slice_get findings.marks.entries place ≡ Some found
  pub state : State
  pub stands : Stands setting found.0 state
  pub slot : IsSlotEnd time state.values state
  pub wide : length state.values ≡ length setting.design.variables
  pub value_is : slice_get state.values variable ≡ Some value
  pub log_is : found.1 ≡ log

-- two marks differ there
pub record TwoMarksDiffer (setting : Setting) (findings : Findings MachineState) (time variable : ℕ) : Type 0 where
  pub one : Vector
  pub other : Vector
  pub log : List (ℕ × ℕ)
  pub other_log : List (ℕ × ℕ)
  pub marks_one : IsMarked setting findings time variable one log
  pub marks_other : IsMarked setting findings time variable other other_log
  pub differ : one ≢ other

-- where two marks differ, the race is listed with every value that a mark has there
abbrev pub ListsEveryMark : Setting → Findings MachineState → List Race → Type 0
ListsEveryMark setting findings races = (time variable : ℕ) (value : Vector) (log : List (ℕ × ℕ)) →
    TwoMarksDiffer setting findings time variable → IsMarked setting findings time variable value log →
    ListsValue races time variable value

-- no mark has the value there with fewer departures than its log
abbrev pub HasFewestOfMarks : Setting → Findings MachineState → Race → Type 0
HasFewestOfMarks setting findings race = (i : ℕ) (s : Vector × List (ℕ × ℕ)) (log : List (ℕ × ℕ)) →
    slice_get race.values i ≡ Some s → IsMarked setting findings race.time race.variable s.0 log → length s.1 ≤ length log

abbrev pub ListsShortest : Setting → Findings MachineState → List Race → Type 0
ListsShortest setting findings races = EachRace (HasFewestOfMarks setting findings) races

-- ---- the clauses, of findings whose marks were found under limits

-- each race listed is one
abbrev pub ListsRaces : Setting → Findings MachineState → List Race → Type 0
ListsRaces setting findings races = (limits : Limits) → ListsFound (machine_rules setting) limits findings → EachRace (IsRace setting limits) races

-- the findings are all
abbrev pub IsWhole : Setting → Limits → Findings MachineState → Type 0
IsWhole setting limits findings = (findings.status ≡ Exhausted) × ListsAll (machine_rules setting) limits findings

-- then every race is listed
abbrev pub ListsAllRaces : Setting → Findings MachineState → List Race → Type 0
ListsAllRaces setting findings races = (limits : Limits) → IsWhole setting limits findings → ListsEveryValue setting limits.depart races

-- and then each value's log has the fewest departures
abbrev pub GivesFewest : Setting → Findings MachineState → List Race → Type 0
GivesFewest setting findings races = (limits : Limits) →
    ListsFound (machine_rules setting) limits findings → IsWhole setting limits findings → EachRace (HasFewest setting) races
