use Rattle.std.proofs.Common.{◌≡◌, length}
use Rattle.report_text.specs.ReportText.{side_text}
use Rattle.report_text.specs.Inner.LineRaces.{IsSide, IsSideBefore}
use Rattle.report_text.proofs.ListLemmas.{HasRead}
use Rattle.report_text.proofs.line_races.take_sides.Given as goal

abbrev pub invariant-loop-place : goal.invariant-loop-place
invariant-loop-place l = record {
  read : HasRead side_text IsSide IsSideBefore l.count l.fn.reader l.sides.items l.reader;
  len : length l.sides.items ≡ l.place;
}
