use Rattle.std.proofs.Common.{◌≡◌, ◌++◌, drop}
use Rattle.vcd_text.specs.DumpText.{changes, code, value_lines}
use Rattle.vcd_text.proofs.values.put_changes.Given as goal

abbrev pub invariant-loop-value : goal.invariant-loop-value
invariant-loop-value l =
    (l.name.items ≡ code l.value-index)
    × (l.text.items ++ value_lines (changes l.value-index l.left l.rest (drop l.value-index l.new))
    ≡ l.initial.text.items ++ value_lines (changes 0 l.initial.left l.initial.rest l.new))
