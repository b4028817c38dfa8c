use Rattle.std.proofs.Common.{◌≡◌, ◌++◌, drop, map}
use Rattle.report_text.specs.WellFormed.{Each}
use Rattle.vreport.specs.Inner.{HasWidth}
use Rattle.vreport.specs.Truth.{column_of}
use Rattle.vreport.proofs.report.columns_of.Given as goal

abbrev pub invariant-loop-variable : goal.invariant-loop-variable
invariant-loop-variable l = (l.columns.items ++ map column_of (drop l.variable-index l.variables) ≡ map column_of l.variables) × Each HasWidth l.columns.items
