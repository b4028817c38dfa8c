use Rattle.std.proofs.Common.{◌≡◌, ◌++◌, drop}
use Rattle.vcd_text.specs.DumpText.{marks_in}
use Rattle.vcd_text.proofs.selected.marks_in.Given as goal

abbrev pub invariant-loop-scope : goal.invariant-loop-scope
invariant-loop-scope l =
    l.list.items ++ marks_in l.actions l.commands (drop l.scope-index l.scopes) ≡ marks_in l.actions l.commands l.scopes
