use Rattle.std.proofs.Common.{◌≡◌, ◌++◌, take}
use Rattle.report_text.specs.ReportText.{value_lines}
use Rattle.report_text.proofs.pieces.put_values.Given as goal

abbrev pub invariant-loop-race_value : goal.invariant-loop-race_value
invariant-loop-race_value l = l.text.items ≡ l.initial.text.items ++ value_lines (take l.race_value-index l.values)
