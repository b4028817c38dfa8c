use Rattle.std.proofs.Common.{◌≡◌, ◌++◌, drop}
use Rattle.vcd_text.specs.DumpText.{spread}
use Rattle.vcd_text.proofs.selected.spread.Given as goal

abbrev pub invariant-loop-scope : goal.invariant-loop-scope
invariant-loop-scope l = l.spread ++ spread l.rest (drop l.scope-index l.scopes) ≡ spread l.initial.rest l.scopes
