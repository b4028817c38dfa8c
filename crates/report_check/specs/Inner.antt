-- *internal*: Words for the contracts of calls within.
use Rattle.std.specs.Prelude.{◌≡◌, ℕ, ◌≤◌, ◌⊎◌, Bool, List, Option, Some, None, Decides}
use Rattle.vmodel.specs.State.{State}
use Rattle.vmodel.specs.Run.{Setting}
use Rattle.vmachine.specs.declared.machine_state.MachineState.{MachineState}
use Rattle.vmachine.specs.Machines.{Stands}
use Rattle.vmachine.specs.Reads.{end_in}
use Rattle.report_text.specs.Report.{End, Report}
use Rattle.report_text.specs.WellFormed.{Each}
use Rattle.vreport.specs.Ends.{IsEndAfter}
use Rattle.vreport.specs.Truth.{AreTrueEnds, IsTrueLineRace, IsTrueRace}
use Rattle.vreport.specs.Values.{values_line}
use Rattle.report_check.specs.FirstBad.{AreFirstEndsTrue, AreFirstRacesTrue, IsFalseEnd, IsFalseLineRace, IsFalseRace}

-- ---- ends

-- a run has ended here, as is told
pub record IsToldAt (end : End) (t : State) : Type 0 where
  pub end_is : end_in t ≡ Some (record { time = end.time; cause = end.cause })
  pub line_is : end.line ≡ values_line t.values
  pub printed_is : end.printed ≡ t.printed

-- the answer says whether it has
abbrev pub TellsStanding : Setting → MachineState → End → Bool → Type 0
TellsStanding setting s end answer = (t : State) → Stands setting s t → Decides answer (IsToldAt end t)

-- the run under the log of the end ends within so many steps, as is told
pub record EndsSo (setting : Setting) (limit : ℕ) (end : End) : Type 0 where
  pub steps : ℕ
  pub after : IsEndAfter setting end.log steps end.time end.cause end.line end.printed
  pub within : steps ≤ limit

-- ---- the first that isn't true

-- the first end that isn't true, if there is one
abbrev pub TellsEnds : Setting → Report → List (List ℕ) → Option ℕ → Type 0
TellsEnds setting report dumps None = AreTrueEnds setting report report.ends dumps
TellsEnds setting report dumps (Some place) = AreFirstEndsTrue setting report dumps place × IsFalseEnd setting report dumps place

-- all races are true
pub record AreTrueRaces (setting : Setting) (report : Report) : Type 0 where
  pub of_variables : Each (IsTrueRace setting report) report.races
  pub of_lines : Each (IsTrueLineRace setting report) report.line_races

-- the first race that isn't, if there is one
abbrev pub TellsRaces : Setting → Report → Option ℕ → Type 0
TellsRaces setting report None = AreTrueRaces setting report
TellsRaces setting report (Some place) =
    AreFirstRacesTrue setting report place × (IsFalseRace setting report place ⊎ IsFalseLineRace setting report place)
