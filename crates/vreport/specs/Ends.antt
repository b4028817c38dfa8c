-- *product rule*: Ends that runs come to, and when a list of them is whole.
use Rattle.std.specs.Prelude.{◌≡◌, ℕ, ◌≤◌, ◌^◌, List, length, slice_get, Option, Some}
use Rattle.sched_core.specs.Replay.{EndsAfter}
use Rattle.explore.specs.declared.findings.Findings.{Findings}
use Rattle.vmachine.specs.declared.machine_state.MachineState.{MachineState}
use Rattle.racebook.specs.Races.{IsWhole}
use Rattle.statebook.specs.declared.limits.Limits.{Limits}
use Rattle.sched_core.specs.declared.end.Cause.{Cause}
use Rattle.vmachine.specs.Machines.{Stands}
use Rattle.vmachine.specs.Reads.{end_in}
use Rattle.vmodel.specs.State.{State}
use Rattle.vmodel.specs.Run.{Setting, rules_of, state_after, end_of}
use Rattle.report_text.specs.Report.{End}
use Rattle.vreport.specs.Dumps.{IsRunDump}
use Rattle.vreport.specs.Values.{values_line}

-- after so many steps the run under the log ends: at this time, for this cause, with these values, and where lines are looked at
-- with those that its last slot printed
pub record IsEndAfter (setting : Setting) (log : List (ℕ × ℕ)) (steps time : ℕ) (cause : Cause) (line : List ℕ) (printed : Option (List (List ℕ))) : Type 0 where
  pub ends : EndsAfter (rules_of setting) log steps
  pub end_is : end_of (state_after setting log steps) ≡ record { time = time; cause = cause }
  pub line_is : line ≡ values_line (state_after setting log steps).values
  pub printed_is : printed ≡ (state_after setting log steps).printed

-- and so it does within the limits of departures and of steps
pub record IsTrueEnd (setting : Setting) (limits : Limits) (end : End) : Type 0 where
  pub steps : ℕ
  pub after : IsEndAfter setting end.log steps end.time end.cause end.line end.printed
  pub within : steps ≤ limits.steps
  pub short : length end.log ≤ limits.depart

-- its bytes are as many as the dump of that run has
pub record HasBytes (setting : Setting) (steps : ℕ) (end : End) : Type 0 where
  pub dump : List ℕ
  pub is_dump : IsRunDump setting end.log steps dump
  pub bytes_are : end.bytes ≡ length dump

-- the run has a dump of 2^64 bytes or more
abbrev pub HasLongDump : Setting → List (ℕ × ℕ) → ℕ → Type 0
HasLongDump setting log limit = (dump : List ℕ) × IsRunDump setting log limit dump × (2 ^ 64 ≤ length dump)

-- so has a run of no more departures than the limit
abbrev pub HasSomeLongDump : Setting → Limits → Type 0
HasSomeLongDump setting limits = (log : List (ℕ × ℕ)) × (length log ≤ limits.depart) × HasLongDump setting log limits.steps

-- the end is listed, under a log of at most so many departures
pub record ListsEnd (ends : List End) (time : ℕ) (cause : Cause) (line : List ℕ) (printed : Option (List (List ℕ))) (departures : ℕ) : Type 0 where
  pub place : ℕ
  pub end : End
  pub at : slice_get ends place ≡ Some end
  pub time_is : end.time ≡ time
  pub cause_is : end.cause ≡ cause
  pub line_is : end.line ≡ line
  pub printed_is : end.printed ≡ printed
  pub fewest : length end.log ≤ departures

-- every run of at most so many departures that ends, after however many steps, ends as one that is listed, which has no
-- more departures than the run
abbrev pub ListsEveryEnd : Setting → ℕ → List End → Type 0
ListsEveryEnd setting depart ends = (log : List (ℕ × ℕ)) (steps time : ℕ) (cause : Cause) (line : List ℕ) (printed : Option (List (List ℕ))) →
    length log ≤ depart → IsEndAfter setting log steps time cause line printed → ListsEnd ends time cause line printed (length log)

-- each of the marks at which a run has ended is listed, under no more departures than its own
abbrev pub ListsEndsOf : Setting → List (MachineState × List (ℕ × ℕ)) → List End → Type 0
ListsEndsOf setting marks ends = (place : ℕ) (found : MachineState × List (ℕ × ℕ)) (t : State) (time : ℕ) (cause : Cause) →
    slice_get marks place ≡ Some found → Stands setting found.0 t → end_in t ≡ Some (record { time = time; cause = cause }) →
    ListsEnd ends time cause (values_line t.values) t.printed (length found.1)

-- so it is of an explorer's findings, whatever their status
abbrev pub ListsEveryMarkedEnd : Setting → Findings MachineState → List End → Type 0
ListsEveryMarkedEnd setting findings ends = ListsEndsOf setting findings.marks.entries ends

-- where the findings are all, so is every end
abbrev pub GivesEveryEnd : Setting → Limits → Findings MachineState → List End → Type 0
GivesEveryEnd setting limits findings ends = IsWhole setting limits findings → ListsEveryEnd setting limits.depart ends
