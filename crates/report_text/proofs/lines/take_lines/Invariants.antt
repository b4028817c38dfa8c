use Rattle.std.proofs.Common.{◌≡◌, length}
use Rattle.report_text.specs.ReportText.{counted_text}
use Rattle.report_text.specs.Inner.Lines.{IsCountable, IsNotAfter}
use Rattle.report_text.proofs.ListLemmas.{HasRead}
use Rattle.report_text.proofs.lines.take_lines.Given as goal

abbrev pub invariant-loop-place : goal.invariant-loop-place
invariant-loop-place l = record {
  read : HasRead counted_text IsCountable IsNotAfter l.count l.fn.reader l.bag l.reader;
  len : length l.bag ≡ l.place;
}
