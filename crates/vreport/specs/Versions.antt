-- *product rule*: Which version a report has (docs/FORMATS.md, "Reports").
use Rattle.sched_core.specs.declared.setting.Departures.{Departures}
use Rattle.sched_core.specs.declared.setting.Departures.TheVariants.{Taking, Holding}
use Rattle.sched_core.specs.declared.setting.Looked.{Looked}
use Rattle.sched_core.specs.declared.setting.Looked.TheVariants.{Values, Lines}
use Rattle.report_text.specs.declared.report.Outcome.{Outcome}
use Rattle.report_text.specs.declared.report.Outcome.TheVariants.{Exhausted, CutMemory, CutEntries, CutSteps, CutTime}
use Rattle.report_text.specs.declared.report.Version.{Version}
use Rattle.report_text.specs.declared.report.Version.TheVariants.{Two, Three}

-- where departures take and values are looked at: the third where time was short
abbrev pub version_of_outcome : Outcome → Version
version_of_outcome Exhausted = Two
version_of_outcome CutMemory = Two
version_of_outcome CutEntries = Two
version_of_outcome CutSteps = Two
version_of_outcome CutTime = Three

-- the third where departures hold back, lines are looked at, or time was short
abbrev pub version_for : Departures → Looked → Outcome → Version
version_for Taking Values outcome = version_of_outcome outcome
version_for Taking Lines outcome = Three
version_for Holding looked outcome = Three
