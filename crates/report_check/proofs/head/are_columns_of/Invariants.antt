use Rattle.report_check.proofs.HeadLemmas.{AgreeBelow}
use Rattle.vreport.specs.Truth.{column_of}
use Rattle.report_check.proofs.head.are_columns_of.Given as goal

abbrev pub invariant-loop-place : goal.invariant-loop-place
invariant-loop-place l = AgreeBelow column_of l.columns l.variables l.place
