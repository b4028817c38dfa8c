use Rattle.std.proofs.Common.{◌≡◌, ◌++◌, drop, map}
use Rattle.report_text.specs.WellFormed.{Each}
use Rattle.vreport.specs.Inner.{HasTimeAndLogs}
use Rattle.vreport.specs.Reports.{report_race}
use Rattle.vreport.proofs.report.report_races.Given as goal

abbrev pub invariant-loop-race : goal.invariant-loop-race
invariant-loop-race l = (l.listed.items ++ map report_race (drop l.race-index l.races) ≡ map report_race l.races) × Each HasTimeAndLogs l.listed.items
