use Rattle.std.proofs.Common.{◌≡◌, length}
use Rattle.report_text.specs.ReportText.{line_race_text}
use Rattle.report_text.specs.WellFormed.{IsLineRaceBefore}
use Rattle.report_text.specs.Inner.LineRaces.{IsCountedLines}
use Rattle.report_text.proofs.ListLemmas.{HasRead}
use Rattle.report_text.proofs.line_races.take_line_races.Given as goal

abbrev pub invariant-loop-place : goal.invariant-loop-place
invariant-loop-place l = record {
  read : HasRead line_race_text IsCountedLines IsLineRaceBefore l.count l.fn.reader l.races.items l.reader;
  len : length l.races.items ≡ l.place;
}
