-- *product rule*: What the report of a search that goes by time tells, beside what each report does: how such a search went, and what is
-- listed up to the time that it closed. `AreFoundInTime` needn't be believed.
use Rattle.std.specs.Prelude.{◌≡◌, ℕ, ◌≤◌, List, length, map, Option, IfSome}
use Rattle.statebook.specs.declared.limits.Limits.{Limits}
use Rattle.explore.specs.Found.{HasEntries}
use Rattle.explore.specs.Ranked.{TellsOfEntries, TellsOfSteps, TellsOfStop, pairs_of}
use Rattle.explore.specs.declared.ranked_findings.RankedReason.TheVariants.{Memory, Entries, Steps, Stopped}
use Rattle.explore.specs.declared.ranked_findings.RankedStatus.{RankedStatus}
use Rattle.explore.specs.declared.ranked_findings.RankedStatus.TheVariants.{Exhausted, Cut}
use Rattle.vmodel.specs.Run.{Setting, rules_of}
use Rattle.vmachine.specs.Machines.{machine_rules}
use Rattle.sched_core.specs.declared.end.Cause.{Cause}
use Rattle.racebook.specs.InTime.{EachEnd, IsClosed, IsEndOfRun, KeepsEndsThroughout, KeepsEndsTo, ListsAllLinesTo, ListsEveryValueTo, ListsLineRacesThroughout, ListsLineRacesTo, ListsOfClosed, ListsRacesThroughout, ListsRacesTo}
use Rattle.racebook.specs.LineRaces as lines
use Rattle.racebook.specs.Races as found
use Rattle.racebook.specs.declared.timed_findings.TimedFindings.{TimedFindings}
use Rattle.report_text.specs.declared.report.Outcome.{Outcome}
use Rattle.report_text.specs.declared.report.Outcome.TheVariants as outcome
use Rattle.report_text.specs.Report.{End, LineRace, Race, Report}
use Rattle.report_text.specs.WellFormed.{Each}
use Rattle.vreport.specs.Ends.{HasBytes, IsEndAfter, ListsEnd}
use Rattle.vreport.specs.Formed.{IsFormed}
use Rattle.vreport.specs.Reports.{IsExploration, report_line_race, report_race}
use Rattle.vreport.specs.Written.{AreHeld}
use Rattle.vreport.specs.declared.timed.Spent.{Spent}
use Rattle.vreport.specs.declared.timed.Spent.TheVariants as spent
use Rattle.vreport.specs.declared.timed.TimedReport.{TimedReport}
use Rattle.vdesign.specs.Named.{AreNamed}

-- what was spent as the watcher stopped the search
abbrev pub outcome_of_spent : Spent → Outcome
outcome_of_spent spent.Time = outcome.CutTime
outcome_of_spent spent.Memory = outcome.CutMemory

-- how the search went; where its watcher stopped it, as he says
abbrev pub outcome_in_time : Spent → RankedStatus → Outcome
outcome_in_time what Exhausted = outcome.Exhausted
outcome_in_time what (Cut (Memory m)) = outcome.CutMemory
outcome_in_time what (Cut Entries) = outcome.CutEntries
outcome_in_time what (Cut Steps) = outcome.CutSteps
outcome_in_time what (Cut Stopped) = outcome_of_spent what

-- ---- what is listed up to the time that was closed

-- every run of at most so many departures that ends up to the time top does so in an end that is listed, under no more departures
abbrev pub ListsEveryEndTo : Setting → ℕ → List End → ℕ → Type 0
ListsEveryEndTo setting depart ends top = (log : List (ℕ × ℕ)) (steps time : ℕ) (cause : Cause) (line : List ℕ) (printed : Option (List (List ℕ))) →
    time ≤ top → length log ≤ depart → IsEndAfter setting log steps time cause line printed → ListsEnd ends time cause line printed (length log)

-- the races told are those that a search found, which lists each up to the time top with all its values, under logs of the fewest
-- departures
pub record TellsRacesTo (setting : Setting) (depart : ℕ) (told : List Race) (top : ℕ) : Type 0 where
  pub races : List found.Race
  pub told_are : told ≡ map report_race races
  pub every : ListsEveryValueTo setting depart races top
  pub fewest : found.EachRace (found.HasFewest setting) races

-- the same of races of lines
pub record TellsLineRacesTo (setting : Setting) (depart : ℕ) (told : List LineRace) (top : ℕ) : Type 0 where
  pub races : List lines.LineRace
  pub told_are : told ≡ map report_line_race races
  pub every : ListsAllLinesTo setting depart races top
  pub fewest : lines.EachLineRace (lines.HasFewestOfLines setting) races

-- up to the time top every end and every race is listed
pub record TellsAllTo (setting : Setting) (limits : Limits) (report : Report) (top : ℕ) : Type 0 where
  pub ends : ListsEveryEndTo setting limits.depart report.ends top
  pub races : TellsRacesTo setting limits.depart report.races top
  pub line_races : TellsLineRacesTo setting limits.depart report.line_races top

-- so it is up to the time that was closed, if one was
abbrev pub TellsUpTo : Setting → Limits → Option ℕ → Report → Type 0
TellsUpTo setting limits closed report = IfSome closed (TellsAllTo setting limits report)

-- each race that is told, and each race of lines, is of a time that was closed
pub record TellsOfClosed (closed : Option ℕ) (report : Report) : Type 0 where
  pub races : Each (λ race. IsClosed closed race.time) report.races
  pub line_races : Each (λ race. IsClosed closed race.time) report.line_races

-- ---- of a report and its search

abbrev pub IsTimedExploration : Setting → Limits → TimedReport → Type 0
IsTimedExploration setting limits told = IsExploration setting limits told.report

abbrev pub ReportsUpTo : Setting → Limits → TimedReport → Type 0
ReportsUpTo setting limits told = TellsUpTo setting limits told.search.closed told.report

abbrev pub ReportsOfClosed : TimedReport → Type 0
ReportsOfClosed told = TellsOfClosed told.search.closed told.report

-- the report says how the search went
abbrev pub TellsOutcomeInTime : Spent → TimedReport → Type 0
TellsOutcomeInTime what told = told.report.outcome ≡ outcome_in_time what told.search.status

-- it says that it was cut for entries only where there are so many that the search may come to
abbrev pub MeansEntriesInTime : Setting → Limits → TimedReport → Type 0
MeansEntriesInTime setting limits told = told.report.outcome ≡ outcome.CutEntries → HasEntries (rules_of setting) limits

-- its search is told to have been stopped only where the budget said so
abbrev pub MeansStopInTime : Type 0 → TimedReport → Type 0
MeansStopInTime IsStopped told = TellsOfStop IsStopped told.search

-- the dump of each end's run has as many bytes as the end tells
abbrev pub TellsBytesInTime : Setting → TimedReport → Type 0
TellsBytesInTime setting told = Each (HasBytes setting told.report.steps) told.report.ends

-- where names are names and the time limit is within its own, the text of the report can be read again
abbrev pub IsReadableInTime : Setting → TimedReport → Type 0
IsReadableInTime setting told = AreNamed setting.design → setting.until ≤ 4611686018427387903 → IsFormed setting told.report

-- where the dump of an end is held, it is that of its run, of as many bytes as the end tells
abbrev pub HoldsDumpsInTime : Setting → TimedReport → Type 0
HoldsDumpsInTime setting told = AreHeld setting told.report.steps told.report.ends told.held.items

-- ---- what is known of the findings of such a search

pub record AreFoundInTime (setting : Setting) (limits : Limits) (timed : TimedFindings) : Type 0 where
  pub races_found : found.EachRace (found.IsRace setting limits) timed.races.items
  pub races_closed : ListsRacesTo setting limits timed
  pub races_exhausted : ListsRacesThroughout setting limits timed
  pub races_fewest : found.EachRace (found.HasFewest setting) timed.races.items
  pub races_order : found.AreRacesInOrder timed.races.items
  pub values_order : found.AreValuesInOrder timed.races.items
  pub lines_found : lines.EachLineRace (lines.IsLineRace setting limits) timed.line_races.items
  pub lines_closed : ListsLineRacesTo setting limits timed
  pub lines_exhausted : ListsLineRacesThroughout setting limits timed
  pub lines_fewest : lines.EachLineRace (lines.HasFewestOfLines setting) timed.line_races.items
  pub lines_order : lines.AreLineRacesInOrder timed.line_races.items
  pub ends_found : EachEnd (IsEndOfRun setting limits) (pairs_of timed.ends.items)
  pub ends_closed : KeepsEndsTo setting limits timed
  pub ends_exhausted : KeepsEndsThroughout setting limits timed
  pub of_closed : ListsOfClosed setting timed
  pub entries : TellsOfEntries (machine_rules setting) limits timed.search
  pub steps : TellsOfSteps (machine_rules setting) limits timed.search
