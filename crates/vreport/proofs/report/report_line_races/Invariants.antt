use Rattle.std.proofs.Common.{◌≡◌, ◌++◌, drop, map}
use Rattle.report_text.specs.WellFormed.{Each}
use Rattle.vreport.specs.Inner.{HasTimeAndSideLogs}
use Rattle.vreport.specs.Reports.{report_line_race}
use Rattle.vreport.proofs.report.report_line_races.Given as goal

abbrev pub invariant-loop-race : goal.invariant-loop-race
invariant-loop-race l = (l.listed.items ++ map report_line_race (drop l.race-index l.races) ≡ map report_line_race l.races) × Each HasTimeAndSideLogs l.listed.items
