-- *internal*: Words for the contracts of calls within: the marks at which runs end, as rows; and what a report is made of.
use Rattle.std.specs.Prelude.{◌≡◌, ℕ, zero, suc, ◌+◌, ◌^◌, ◌<◌, ◌≤◌, ◌⊎◌, List, length, slice_get, Option, Some, None}
use Rattle.std.specs.List.{Contains}
use Rattle.std.specs.Option.{option_cmp}
use Rattle.std.specs.Ordering.{nat_cmp, ordering_then}
use Rattle.std.specs.declared.cmp.Ordering.{Ordering}
use Rattle.std.specs.Cmp.Lexicographic.{slice_cmp}
use Rattle.std.specs.declared.cmp.Ordering.TheVariants.{Less, Equal}
use Rattle.sched_core.specs.Bags.{bag_cmp, HasLines}
use Rattle.sched_core.specs.declared.setting.Looked.{Looked}
use Rattle.sched_core.specs.Logs.{IsLog}
use Rattle.sched_core.specs.declared.end.Cause.{Cause}
use Rattle.sched_core.specs.declared.end.Cause.TheVariants.{Finish, Stop, Quiet, Limit}
use Rattle.sched_core.specs.declared.end.End.{End}
use Rattle.vmodel.specs.State.{State}
use Rattle.vmodel.specs.Run.{Setting}
use Rattle.vmachine.specs.declared.machine_state.MachineState.{MachineState}
use Rattle.vmachine.specs.Machines.{Stands}
use Rattle.vmachine.specs.Reads.{end_in}
use Rattle.vreport.specs.declared.row.Row.{Row}
use Rattle.statebook.specs.declared.limits.Limits.{Limits}
use Rattle.report_text.specs.Report.{Column, End as ReportEnd, LineRace, Race}
use Rattle.report_text.specs.WellFormed.{Each, EachTwo, IsEndBefore}
use Rattle.vreport.specs.Dumps.{IsRunDump}
use Rattle.racebook.specs.LineRaces.{LineRace as FoundLineRace, AreLineRacesInOrder, EachLineRace, IsLineRace}
use Rattle.racebook.specs.Races.{Race as FoundRace, AreRacesInOrder, AreValuesInOrder, EachRace, IsRace}
use Rattle.vreport.specs.Ends.{HasBytes, IsTrueEnd}
use Rattle.vreport.specs.Values.{values_line}

-- the place of a cause in the order of their words
abbrev pub order_of : Cause → ℕ
order_of Finish = 0
order_of Limit = 1
order_of Quiet = 2
order_of Stop = 3

abbrev pub cause_of : ℕ → Cause
cause_of zero = Finish
cause_of (suc zero) = Limit
cause_of (suc (suc zero)) = Quiet
cause_of (suc (suc (suc n))) = Stop

-- the row is of this end, of these values and of these lines
pub record IsRowAt (row : Row) (end : End) (t : State) : Type 0 where
  pub time_is : row.time ≡ end.time
  pub cause_is : row.cause ≡ order_of end.cause
  pub line_is : row.line.items ≡ values_line t.values
  pub printed_is : row.printed ≡ t.printed

-- the row is of this mark, at which a run ends
pub record IsRow (setting : Setting) (found : MachineState × List (ℕ × ℕ)) (place : ℕ) (row : Row) : Type 0 where
  pub at_end : (t : State) → Stands setting found.0 t → (end : End) × (end_in t ≡ Some end) × IsRowAt row end t
  pub departures_are : row.departures ≡ length found.1
  pub place_is : row.place ≡ place

-- at the mark no run ends
abbrev pub IsNoEnd : Setting → MachineState → Type 0
IsNoEnd setting s = (t : State) → Stands setting s t → end_in t ≡ None

abbrev pub TellsRow : Setting → MachineState × List (ℕ × ℕ) → ℕ → Option Row → Type 0
TellsRow setting found place None = IsNoEnd setting found.0
TellsRow setting found place (Some row) = IsRow setting found place row

pub record IsRowOfSome (setting : Setting) (marks : List (MachineState × List (ℕ × ℕ))) (row : Row) : Type 0 where
  pub found : MachineState × List (ℕ × ℕ)
  pub at : slice_get marks row.place ≡ Some found
  pub of : IsRow setting found row.place row

pub record HasRow (setting : Setting) (found : MachineState × List (ℕ × ℕ)) (place : ℕ) (rows : List Row) : Type 0 where
  pub row : Row
  pub among : Contains rows row
  pub of : IsRow setting found place row

-- each row is of a mark, and each of the first marks has its row where a run ends there
pub record AreRowsBelow (setting : Setting) (marks : List (MachineState × List (ℕ × ℕ))) (count : ℕ) (rows : List Row) : Type 0 where
  pub each : (row : Row) → Contains rows row → IsRowOfSome setting marks row
  pub whole : (place : ℕ) (found : MachineState × List (ℕ × ℕ)) → place < count → slice_get marks place ≡ Some found →
      HasRow setting found place rows ⊎ IsNoEnd setting found.0

abbrev pub AreRows : Setting → List (MachineState × List (ℕ × ℕ)) → List Row → Type 0
AreRows setting marks rows = AreRowsBelow setting marks (length marks) rows

-- ---- the order of rows

-- by time, then by the order of causes, then by the line of values, then by the printed lines
abbrev pub key_cmp : Row → Row → Ordering
key_cmp r s =
    ordering_then (nat_cmp r.time s.time) (ordering_then (nat_cmp r.cause s.cause)
    (ordering_then (slice_cmp nat_cmp r.line.items s.line.items) (option_cmp bag_cmp r.printed s.printed)))

-- the end of one row stands before that of the other, or is the same under no more departures
abbrev pub IsNotAfter : Row → Row → Type 0
IsNotAfter r s = (key_cmp r s ≡ Less) ⊎ ((key_cmp r s ≡ Equal) × (r.departures ≤ s.departures))

abbrev pub AreSortedRows : List Row → Type 0
AreSortedRows rows = EachTwo IsNotAfter rows

-- the row at the place and the one before it are of one end
pub record Repeats (rows : List Row) (place : ℕ) : Type 0 where
  pub before : ℕ
  pub first : Row
  pub second : Row
  pub is_before : before + 1 ≡ place
  pub first_at : slice_get rows before ≡ Some first
  pub second_at : slice_get rows place ≡ Some second
  pub alike : key_cmp first second ≡ Equal

-- ---- what can be written

-- 4.2.2: so many bits as a variable may have
abbrev pub HasWidth : Column → Type 0
HasWidth column = (1 ≤ column.width) × (column.width ≤ 64)

-- the end's time has 64 bits, its log is one, and it has lines where they are looked at
pub record IsWritable (looked : Looked) (end : ReportEnd) : Type 0 where
  pub time : end.time < 2 ^ 64
  pub log : IsLog end.log
  pub lines : HasLines looked end.printed

-- the log of the value is one
abbrev pub HasLog : List ℕ × List (ℕ × ℕ) → Type 0
HasLog seen = IsLog seen.1

-- so are those of the race's values, and its time has 64 bits
abbrev pub HasTimeAndLogs : Race → Type 0
HasTimeAndLogs race = (race.time < 2 ^ 64) × Each HasLog race.values

-- the log of the side is one
abbrev pub HasSideLog : List (List ℕ) × List (ℕ × ℕ) → Type 0
HasSideLog side = IsLog side.1

-- so are those of the sides, and the time has 64 bits
abbrev pub HasTimeAndSideLogs : LineRace → Type 0
HasTimeAndSideLogs race = (race.time < 2 ^ 64) × Each HasSideLog race.sides

-- ---- ends of rows

-- it is the run's dump, of so many bytes
abbrev pub IsCounted : Setting → List (ℕ × ℕ) → ℕ → ℕ → List ℕ → Type 0
IsCounted setting log limit count dump = IsRunDump setting log limit dump × (count ≡ length dump)

-- so many bytes as the run's dump has
abbrev pub CountsDump : Setting → List (ℕ × ℕ) → ℕ → ℕ → Type 0
CountsDump setting log limit count = (dump : List ℕ) × IsCounted setting log limit count dump

-- the end is that of the row, under the log of its mark
pub record IsEndOfRow (setting : Setting) (limits : Limits) (marks : List (MachineState × List (ℕ × ℕ))) (row : Row) (end : ReportEnd) : Type 0 where
  pub found : MachineState × List (ℕ × ℕ)
  pub at : slice_get marks row.place ≡ Some found
  pub of : IsRow setting found row.place row
  pub time_is : end.time ≡ row.time
  pub cause_is : row.cause ≡ order_of end.cause
  pub line_is : end.line ≡ row.line.items
  pub printed_is : end.printed ≡ row.printed
  pub log_is : end.log ≡ found.1
  pub kept : IsWritable setting.looked end
  pub bytes : HasBytes setting limits.steps end

-- the row's end is listed, under no more departures
pub record HasEnd (ends : List ReportEnd) (row : Row) : Type 0 where
  pub place : ℕ
  pub end : ReportEnd
  pub at : slice_get ends place ≡ Some end
  pub time_is : end.time ≡ row.time
  pub cause_is : row.cause ≡ order_of end.cause
  pub line_is : end.line ≡ row.line.items
  pub printed_is : end.printed ≡ row.printed
  pub fewest : length end.log ≤ row.departures

-- the end is that of one of the first rows
pub record IsEndOfSome (setting : Setting) (limits : Limits) (marks : List (MachineState × List (ℕ × ℕ))) (rows : List Row) (count : ℕ) (end : ReportEnd) : Type 0 where
  pub place : ℕ
  pub row : Row
  pub below : place < count
  pub at : slice_get rows place ≡ Some row
  pub of : IsEndOfRow setting limits marks row end

-- the ends are those of the first rows
pub record AreEndsBelow (setting : Setting) (limits : Limits) (marks : List (MachineState × List (ℕ × ℕ))) (rows : List Row) (count : ℕ) (ends : List ReportEnd) : Type 0 where
  pub each : Each (IsEndOfSome setting limits marks rows count) ends
  pub whole : (place : ℕ) (row : Row) → place < count → slice_get rows place ≡ Some row → HasEnd ends row
  pub order : EachTwo IsEndBefore ends

abbrev pub AreEnds : Setting → Limits → List (MachineState × List (ℕ × ℕ)) → List Row → List ReportEnd → Type 0
AreEnds setting limits marks rows ends = AreEndsBelow setting limits marks rows (length rows) ends

-- ---- what a report is made of

-- ends of runs, and races, each in their order
pub record MayBeTold (setting : Setting) (limits : Limits) (ends : List ReportEnd) (races : List FoundRace) (line_races : List FoundLineRace) : Type 0 where
  pub true_ends : Each (IsTrueEnd setting limits) ends
  pub writable : Each (IsWritable setting.looked) ends
  pub ends_order : EachTwo IsEndBefore ends
  pub true_races : EachRace (IsRace setting limits) races
  pub races_order : AreRacesInOrder races
  pub values_order : AreValuesInOrder races
  pub true_lines : EachLineRace (IsLineRace setting limits) line_races
  pub lines_order : AreLineRacesInOrder line_races
