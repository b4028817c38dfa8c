use Rattle.std.proofs.Common.{◌≡◌, map, length}
use Rattle.report_text.specs.ReportText.{column_line}
use Rattle.report_text.specs.WellFormed.{IsColumn}
use Rattle.report_text.specs.Inner.Columns.{Differ}
use Rattle.report_text.proofs.ListLemmas.{HasRead}
use Rattle.report_text.proofs.columns.read_columns.Given as goal

abbrev pub invariant-loop-place : goal.invariant-loop-place
invariant-loop-place l = record {
  read : HasRead column_line IsColumn Differ l.count l.fn.reader l.columns.items l.reader;
  names : l.names ≡ map (λ c. c.name) l.columns.items;
  len : length l.columns.items ≡ l.place;
}
