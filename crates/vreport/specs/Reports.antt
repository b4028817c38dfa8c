-- *product rule*: The report of what an explorer found: its head, and its races beside those of specs/Races of the races' own crate; and
-- what an exploration reports.
use Rattle.std.specs.Prelude.{◌≡◌, ℕ, ◌≤◌, List, map}
use Rattle.statebook.specs.declared.limits.Limits.{Limits}
use Rattle.explore.specs.declared.findings.Findings.{Findings}
use Rattle.explore.specs.declared.findings.Status.{Status}
use Rattle.explore.specs.declared.findings.Status.TheVariants.{Exhausted, Cut}
use Rattle.statebook.specs.declared.reason.Reason.TheVariants.{Memory, Entries, Steps}
use Rattle.vdesign.specs.Named.{AreNamed}
use Rattle.vbits.specs.Vectors.{Vector}
use Rattle.vmodel.specs.Run.{Setting, rules_of}
use Rattle.vmachine.specs.declared.machine_state.MachineState.{MachineState}
use Rattle.racebook.specs.LineRaces as lines
use Rattle.racebook.specs.Races as found
use Rattle.report_text.specs.declared.report.Outcome.{Outcome}
use Rattle.report_text.specs.declared.report.Outcome.TheVariants as outcome
use Rattle.report_text.specs.Report.{LineRace, Race, Report}
use Rattle.statebook.specs.Ways.{SomeRunExceeds}
use Rattle.explore.specs.Found.{HasEntries}
use Rattle.report_text.specs.WellFormed.{Each, EachTwo, IsEndBefore}
use Rattle.vreport.specs.Ends.{HasBytes, IsTrueEnd, ListsEveryEnd}
use Rattle.vreport.specs.Formed.{IsFormed}
use Rattle.vreport.specs.Truth.{IsTrueHead}
use Rattle.vreport.specs.Versions.{version_for}
use Rattle.vreport.specs.Written.{AreHeld}
use Rattle.vreport.specs.declared.explored.Explored.{Explored}
use Rattle.value_text.specs.ValueText.{binary}

-- how the exploration went
abbrev pub outcome_of : Status → Outcome
outcome_of Exhausted = outcome.Exhausted
outcome_of (Cut (Memory m)) = outcome.CutMemory
outcome_of (Cut Entries) = outcome.CutEntries
outcome_of (Cut Steps) = outcome.CutSteps

abbrev pub HasOutcome : Status → Report → Type 0
HasOutcome status report = report.outcome ≡ outcome_of status

-- the head is that of the setting and of the limits
pub record IsHeadOf (setting : Setting) (limits : Limits) (report : Report) : Type 0 where
  pub version_is : report.version ≡ version_for setting.departures setting.looked report.outcome
  pub setting_is : IsTrueHead setting report
  pub depart_is : report.depart ≡ limits.depart
  pub steps_is : report.steps ≡ limits.steps

-- ---- races

-- a value as its digits, with its log
abbrev pub report_value : Vector × List (ℕ × ℕ) → List ℕ × List (ℕ × ℕ)
report_value seen = (binary seen.0, seen.1)

abbrev pub report_race : found.Race → Race
report_race race = record { time = race.time; variable = race.variable; values = map report_value race.values }

-- the races told are races, in order, with their values in the order of their digits; where the findings are all, no race
-- and no value of one is missing, and each log has the fewest departures; whatever the status, so it is of what the marks show
pub record ShowsRaces (setting : Setting) (limits : Limits) (findings : Findings MachineState) (told : List Race) : Type 0 where
  pub races : List found.Race
  pub told_are : told ≡ map report_race races
  pub each : found.EachRace (found.IsRace setting limits) races
  pub order : found.AreRacesInOrder races
  pub values_order : found.AreValuesInOrder races
  pub every : found.IsWhole setting limits findings → found.ListsEveryValue setting limits.depart races
  pub fewest : found.IsWhole setting limits findings → found.EachRace (found.HasFewest setting) races
  pub marked : found.ListsEveryMark setting findings races
  pub shortest : found.ListsShortest setting findings races

-- a race of lines, told as it was found
abbrev pub report_line_race : lines.LineRace → LineRace
report_line_race race = record { time = race.time; sides = race.sides }

-- the same of races of lines
pub record ShowsLineRaces (setting : Setting) (limits : Limits) (findings : Findings MachineState) (told : List LineRace) : Type 0 where
  pub races : List lines.LineRace
  pub told_are : told ≡ map report_line_race races
  pub each : lines.EachLineRace (lines.IsLineRace setting limits) races
  pub order : lines.AreLineRacesInOrder races
  pub every : found.IsWhole setting limits findings → lines.ListsAllLines setting limits.depart races
  pub fewest : found.IsWhole setting limits findings → lines.EachLineRace (lines.HasFewestOfLines setting) races
  pub marked : lines.ListsEveryMarkOfLines setting findings races
  pub shortest : lines.ListsShortestOfLines setting findings races

-- ---- what an exploration reports

-- The races told are races, in order, with their values in the order of their digits. Where nothing was missed, no race and
-- no value of one is missing, and each log has the fewest departures.
pub record AreRaces (setting : Setting) (limits : Limits) (report : Report) : Type 0 where
  pub races : List found.Race
  pub told_are : report.races ≡ map report_race races
  pub each : found.EachRace (found.IsRace setting limits) races
  pub order : found.AreRacesInOrder races
  pub values_order : found.AreValuesInOrder races
  pub every : report.outcome ≡ outcome.Exhausted → found.ListsEveryValue setting limits.depart races
  pub fewest : report.outcome ≡ outcome.Exhausted → found.EachRace (found.HasFewest setting) races

-- The races of lines that are told are such races, in order. Where nothing was missed none is missing and no side of one, and each log
-- has the fewest departures.
pub record AreLineRaces (setting : Setting) (limits : Limits) (report : Report) : Type 0 where
  pub races : List lines.LineRace
  pub told_are : report.line_races ≡ map report_line_race races
  pub each : lines.EachLineRace (lines.IsLineRace setting limits) races
  pub order : lines.AreLineRacesInOrder races
  pub every : report.outcome ≡ outcome.Exhausted → lines.ListsAllLines setting limits.depart races
  pub fewest : report.outcome ≡ outcome.Exhausted → lines.EachLineRace (lines.HasFewestOfLines setting) races

-- The report is of this setting, explored under these limits. Each end is that of a run within the limits, each race is
-- one. Where it says exhausted, every run of at most so many departures that ends does so in a listed end, with no fewer
-- departures than its log. Where it says that it was cut for steps, such a run takes more steps than the limit.
pub record IsExploration (setting : Setting) (limits : Limits) (report : Report) : Type 0 where
  pub head : IsHeadOf setting limits report
  pub ends : Each (IsTrueEnd setting limits) report.ends
  pub ends_order : EachTwo IsEndBefore report.ends
  pub every_end : report.outcome ≡ outcome.Exhausted → ListsEveryEnd setting limits.depart report.ends
  pub races : AreRaces setting limits report
  pub line_races : AreLineRaces setting limits report
  pub cut_for_steps : report.outcome ≡ outcome.CutSteps → SomeRunExceeds (rules_of setting) limits

-- ---- of a report and the status of its exploration

abbrev pub ReportsExploration : Setting → Limits → Explored → Type 0
ReportsExploration setting limits explored = IsExploration setting limits explored.report

-- the report says how the exploration went
abbrev pub TellsOutcome : Explored → Type 0
TellsOutcome explored = HasOutcome explored.status explored.report

-- it was cut for entries only where there are so many that the exploration may come to; so it is of one thread alone
abbrev pub MeansEntries : Setting → Limits → Explored → Type 0
MeansEntries setting limits explored = explored.status ≡ Cut Entries → HasEntries (rules_of setting) limits

-- the dump of each end's run has as many bytes as the end tells
abbrev pub TellsBytes : Setting → Explored → Type 0
TellsBytes setting explored = Each (HasBytes setting explored.report.steps) explored.report.ends

-- where names are names and the time limit is within its own, the text of the report can be read again
abbrev pub IsReadable : Setting → Explored → Type 0
IsReadable setting explored = AreNamed setting.design → setting.until ≤ 4611686018427387903 → IsFormed setting explored.report

-- where the dump of an end is held, it is that of its run, of as many bytes as the end tells
abbrev pub HoldsDumps : Setting → Explored → Type 0
HoldsDumps setting explored = AreHeld setting explored.report.steps explored.report.ends explored.held.items
