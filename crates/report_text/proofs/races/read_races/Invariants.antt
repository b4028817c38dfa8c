use Rattle.std.proofs.Common.{◌≡◌, length}
use Rattle.report_text.specs.ReportText.{race_text}
use Rattle.report_text.specs.WellFormed.{IsRaceBefore}
use Rattle.report_text.specs.Inner.Races.{IsCounted}
use Rattle.report_text.proofs.ListLemmas.{HasRead}
use Rattle.report_text.proofs.races.read_races.Given as goal

abbrev pub invariant-loop-place : goal.invariant-loop-place
invariant-loop-place l = record {
  read : HasRead (race_text l.columns) (IsCounted l.columns) IsRaceBefore l.count l.fn.reader l.races.items l.reader;
  len : length l.races.items ≡ l.place;
}
