use Rattle.std.proofs.Common.{◌≡◌, ◌++◌, drop}
use Rattle.vcd_text.specs.DumpText.{code, selected_values, value_lines}
use Rattle.vcd_text.proofs.values.put_values.Given as goal

abbrev pub invariant-loop-value : goal.invariant-loop-value
invariant-loop-value l =
    (l.name.items ≡ code l.value-index)
    × (l.text.items ++ value_lines (selected_values l.value-index l.rest (drop l.value-index l.values))
    ≡ l.initial.text.items ++ value_lines (selected_values 0 l.initial.rest l.values))
