use Rattle.std.proofs.Common.{◌≡◌, ◌+◌, ◌++◌, ℕ, drop}
use Rattle.vcd_text.specs.DumpText.{code, variable_lines}
use Rattle.vcd_text.proofs.header.put_variables.Given as goal

abbrev pub invariant-loop-variable : goal.invariant-loop-variable
invariant-loop-variable l =
    (n : ℕ) → l.initial.name.items ≡ code n →
    (l.name.items ≡ code (n + l.variable-index))
    × (l.text.items ++ variable_lines (n + l.variable-index) (drop l.variable-index l.variables)
    ≡ l.initial.text.items ++ variable_lines n l.variables)
