use Rattle.std.proofs.Common.{◌≡◌, drop}
use Rattle.vcd_text.specs.DumpText.{is_any_below}
use Rattle.vcd_text.proofs.selected.is_any_below.Given as goal

abbrev pub invariant-loop-scope : goal.invariant-loop-scope
invariant-loop-scope l = is_any_below l.depth l.rest (drop l.scope-index l.scopes) ≡ is_any_below l.depth l.initial.rest l.scopes
