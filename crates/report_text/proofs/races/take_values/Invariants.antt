use Rattle.std.proofs.Common.{◌≡◌, length}
use Rattle.report_text.specs.Inner.Races.{shown_line, IsShown, IsShownBefore}
use Rattle.report_text.proofs.ListLemmas.{HasRead}
use Rattle.report_text.proofs.races.take_values.Given as goal

abbrev pub invariant-loop-place : goal.invariant-loop-place
invariant-loop-place l = record {
  read : HasRead shown_line (IsShown l.width) IsShownBefore l.count l.fn.reader l.values.items l.reader;
  len : length l.values.items ≡ l.place;
}
