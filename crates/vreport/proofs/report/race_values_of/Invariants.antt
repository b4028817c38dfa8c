use Rattle.std.proofs.Common.{◌≡◌, ◌++◌, drop, map}
use Rattle.report_text.specs.WellFormed.{Each}
use Rattle.vreport.specs.Inner.{HasLog}
use Rattle.vreport.specs.Reports.{report_value}
use Rattle.vreport.proofs.report.race_values_of.Given as goal

abbrev pub invariant-loop-witness : goal.invariant-loop-witness
invariant-loop-witness l = (l.race_values.items ++ map report_value (drop l.witness-index l.values) ≡ map report_value l.values) × Each HasLog l.race_values.items
