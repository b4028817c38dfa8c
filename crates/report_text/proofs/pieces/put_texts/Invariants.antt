use Rattle.std.proofs.Common.{◌≡◌, ◌++◌, take}
use Rattle.report_text.specs.ReportText.{counted_texts}
use Rattle.report_text.proofs.pieces.put_texts.Given as goal

abbrev pub invariant-loop-printed : goal.invariant-loop-printed
invariant-loop-printed l = l.text.items ≡ l.initial.text.items ++ counted_texts (take l.printed-index l.lines)
