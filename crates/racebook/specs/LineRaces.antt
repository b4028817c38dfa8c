-- *product rule*: Races of lines: where two orders that clause 11 of IEEE 1364-2005 allows (11.4.1, 11.4.2) let one time slot print different
-- lines (17.1.1, 17.1.2), in whichever order, that is a race of lines. Where lines aren't looked at there is none.
use Rattle.std.specs.Prelude.{◌≡◌, ◌≢◌, ℕ, ◌<◌, ◌≤◌, List, [], length, slice_get, Some}
use Rattle.vbits.specs.Vectors.{Vector}
use Rattle.sched_core.specs.Rules.{IsRun, NamesBelow}
use Rattle.statebook.specs.declared.limits.Limits.{Limits}
use Rattle.explore.specs.declared.findings.Findings.{Findings}
use Rattle.explore.specs.Found.{ListsFound}
use Rattle.vmodel.specs.State.{State}
use Rattle.sched_core.specs.declared.setting.Looked.TheVariants.{Values}
use Rattle.sched_core.specs.Bags.{IsBagLess}
use Rattle.vmodel.specs.Run.{Setting, rules_of, state_after}
use Rattle.vmodel.specs.SlotEnds.{IsSlotEnd}
use Rattle.vmachine.specs.declared.machine_state.MachineState.{MachineState}
use Rattle.vmachine.specs.Machines.{Stands, machine_rules}
use Rattle.racebook.specs.Races.{IsWhole}

-- the lines of a slot, each as its bytes
abbrev pub Texts : Type 0
Texts = List (List ℕ)

-- what one of the runs printed, with its log
abbrev pub Side : Type 0
Side = Texts × List (ℕ × ℕ)

-- after so many steps the run under the log is at the end of the slot of this time, which printed these lines
pub record ShowsLines (setting : Setting) (time : ℕ) (lines : Texts) (log : List (ℕ × ℕ)) (steps : ℕ) : Type 0 where
  pub run : IsRun (rules_of setting) log steps
  pub values : List Vector
  pub slot : IsSlotEnd time values (state_after setting log steps)
  pub printed : (state_after setting log steps).printed ≡ Some lines

-- so it is within the limits, once the run has reached all that the log names
pub record IsLinesWitness (setting : Setting) (limits : Limits) (time : ℕ) (lines : Texts) (log : List (ℕ × ℕ)) : Type 0 where
  pub steps : ℕ
  pub shown : ShowsLines setting time lines log steps
  pub within : steps ≤ limits.steps
  pub names : NamesBelow log steps
  pub short : length log ≤ limits.depart

-- a time, and the lines that its slot printed in some runs, each with the departures of one
pub record LineRace : Type 0 where
  pub time : ℕ
  pub sides : List Side

-- the sides stand in the order of their lines, so that no two are the same
abbrev pub AreSidesInOrder : List Side → Type 0
AreSidesInOrder sides = (i j : ℕ) (s t : Side) →
    i < j → slice_get sides i ≡ Some s → slice_get sides j ≡ Some t → IsBagLess s.0 t.0

-- two sides or more, each seen under its log
pub record IsLineRace (setting : Setting) (limits : Limits) (race : LineRace) : Type 0 where
  pub two : 2 ≤ length race.sides
  pub order : AreSidesInOrder race.sides
  pub seen : (i : ℕ) (s : Side) → slice_get race.sides i ≡ Some s → IsLinesWitness setting limits race.time s.0 s.1

-- the fact holds of each race of the list
abbrev pub EachLineRace : (LineRace → Type 0) → List LineRace → Type 0
EachLineRace P races = (i : ℕ) (race : LineRace) → slice_get races i ≡ Some race → P race

-- some run of at most so many departures prints these lines
pub record SomeRunPrints (setting : Setting) (depart time : ℕ) (lines : Texts) : Type 0 where
  pub log : List (ℕ × ℕ)
  pub steps : ℕ
  pub shown : ShowsLines setting time lines log steps
  pub short : length log ≤ depart

-- two such runs print different lines
pub record TwoRunsPrint (setting : Setting) (depart time : ℕ) : Type 0 where
  pub one : Texts
  pub other : Texts
  pub prints_one : SomeRunPrints setting depart time one
  pub prints_other : SomeRunPrints setting depart time other
  pub differ : one ≢ other

-- a race of the list has this time, and among its sides these lines
pub record ListsLines (races : List LineRace) (time : ℕ) (lines : Texts) : Type 0 where
  pub place : ℕ
  pub race : LineRace
  pub at : slice_get races place ≡ Some race
  pub time_is : race.time ≡ time
  pub side_place : ℕ
  pub side : Side
  pub side_at : slice_get race.sides side_place ≡ Some side
  pub lines_are : side.0 ≡ lines

-- where two runs print different lines, the race is listed with all that any run prints there
abbrev pub ListsAllLines : Setting → ℕ → List LineRace → Type 0
ListsAllLines setting depart races = (time : ℕ) (lines : Texts) →
    TwoRunsPrint setting depart time → SomeRunPrints setting depart time lines → ListsLines races time lines

-- no run at all prints the lines, at this time, with fewer departures than the log of the side
abbrev pub HasFewestOfLines : Setting → LineRace → Type 0
HasFewestOfLines setting race = (i : ℕ) (s : Side) (log : List (ℕ × ℕ)) (steps : ℕ) →
    slice_get race.sides i ≡ Some s → ShowsLines setting race.time s.0 log steps → length s.1 ≤ length log

-- races of lines stand in the order of time, each time once
abbrev pub AreLineRacesInOrder : List LineRace → Type 0
AreLineRacesInOrder races = (i j : ℕ) (a b : LineRace) →
    i < j → slice_get races i ≡ Some a → slice_get races j ≡ Some b → a.time < b.time

-- the sides of each race stand in the order of their lines
abbrev pub AreAllSidesInOrder : List LineRace → Type 0
AreAllSidesInOrder races = EachLineRace (λ race. AreSidesInOrder race.sides) races

-- ---- what the marks show, whatever the status

-- a mark stands for the end of the slot of this time, which printed these lines, under this log
pub record IsMarkedLines (setting : Setting) (findings : Findings MachineState) (time : ℕ) (lines : Texts) (log : List (ℕ × ℕ)) : Type 0 where
  pub place : ℕ
  pub found : MachineState × List (ℕ × ℕ)
  pub at : slice_get findings.marks.entries place ≡ Some found
  pub state : State
  pub stands : Stands setting found.0 state
  pub slot : IsSlotEnd time state.values state
  pub wide : length state.values ≡ length setting.design.variables
  pub printed : state.printed ≡ Some lines
  pub log_is : found.1 ≡ log

-- two marks differ there
pub record TwoMarksPrint (setting : Setting) (findings : Findings MachineState) (time : ℕ) : Type 0 where
  pub one : Texts
  pub other : Texts
  pub log : List (ℕ × ℕ)
  pub other_log : List (ℕ × ℕ)
  pub marks_one : IsMarkedLines setting findings time one log
  pub marks_other : IsMarkedLines setting findings time other other_log
  pub differ : one ≢ other

-- where two marks differ, the race is listed with all lines that a mark has there
abbrev pub ListsEveryMarkOfLines : Setting → Findings MachineState → List LineRace → Type 0
ListsEveryMarkOfLines setting findings races = (time : ℕ) (lines : Texts) (log : List (ℕ × ℕ)) →
    TwoMarksPrint setting findings time → IsMarkedLines setting findings time lines log → ListsLines races time lines

-- no mark has the lines there with fewer departures than the log of the side
abbrev pub HasFewestOfMarkedLines : Setting → Findings MachineState → LineRace → Type 0
HasFewestOfMarkedLines setting findings race = (i : ℕ) (s : Side) (log : List (ℕ × ℕ)) →
    slice_get race.sides i ≡ Some s → IsMarkedLines setting findings race.time s.0 log → length s.1 ≤ length log

abbrev pub ListsShortestOfLines : Setting → Findings MachineState → List LineRace → Type 0
ListsShortestOfLines setting findings races = EachLineRace (HasFewestOfMarkedLines setting findings) races

-- ---- the clauses, of findings whose marks were found under limits

-- each race listed is one
abbrev pub ListsLineRaces : Setting → Findings MachineState → List LineRace → Type 0
ListsLineRaces setting findings races = (limits : Limits) →
    ListsFound (machine_rules setting) limits findings → EachLineRace (IsLineRace setting limits) races

-- where the findings are all, every race is listed
abbrev pub ListsAllLineRaces : Setting → Findings MachineState → List LineRace → Type 0
ListsAllLineRaces setting findings races = (limits : Limits) → IsWhole setting limits findings → ListsAllLines setting limits.depart races

-- and then each side's log has the fewest departures
abbrev pub GivesFewestOfLines : Setting → Findings MachineState → List LineRace → Type 0
GivesFewestOfLines setting findings races = (limits : Limits) →
    ListsFound (machine_rules setting) limits findings → IsWhole setting limits findings → EachLineRace (HasFewestOfLines setting) races

-- where values alone are looked at there is none
abbrev pub ListsNoLineRace : Setting → Findings MachineState → List LineRace → Type 0
ListsNoLineRace setting findings races = (limits : Limits) →
    ListsFound (machine_rules setting) limits findings → setting.looked ≡ Values → races ≡ []
