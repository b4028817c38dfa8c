use Rattle.std.proofs.Common.{◌≡◌, ◌++◌, drop, map}
use Rattle.vcd_text.specs.DumpText.{unknown_of, code, selected_values, value_lines}
use Rattle.vcd_text.proofs.values.put_blanks.Given as goal

abbrev pub invariant-loop-value : goal.invariant-loop-value
invariant-loop-value l =
    (l.name.items ≡ code l.value-index)
    × (l.text.items ++ value_lines (selected_values l.value-index l.rest (map unknown_of (drop l.value-index l.values)))
    ≡ l.initial.text.items ++ value_lines (selected_values 0 l.initial.rest (map unknown_of l.values)))
