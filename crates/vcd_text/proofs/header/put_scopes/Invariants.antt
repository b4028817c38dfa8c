use Rattle.std.proofs.Common.{◌≡◌, ◌++◌, ℕ, length}
use Rattle.vcd_text.specs.DumpText.{code, scope_lines}
use Rattle.vcd_text.proofs.header.put_scopes.Given as goal

abbrev pub invariant-loop-scope : goal.invariant-loop-scope
invariant-loop-scope l =
    (n : ℕ)
    × (l.name.items ≡ code n)
    × (l.text.items ++ scope_lines l.around n l.left_marks l.left l.rest
    ≡ l.initial.text.items ++ scope_lines 0 0 l.initial.left_marks l.initial.left l.initial.rest)

abbrev pub decreases-loop-scope : goal.decreases-loop-scope
decreases-loop-scope l = length l.left
