use Rattle.std.proofs.Common.{◌≡◌, ◌++◌, take}
use Rattle.report_text.specs.ReportText.{side_texts}
use Rattle.report_text.proofs.pieces.put_sides.Given as goal

abbrev pub invariant-loop-side : goal.invariant-loop-side
invariant-loop-side l = l.text.items ≡ l.initial.text.items ++ side_texts (take l.side-index l.sides)
