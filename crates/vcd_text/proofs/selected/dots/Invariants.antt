use Rattle.std.proofs.Common.{◌≡◌, ◌≤◌, ◌+◌, drop}
use Rattle.vcd_text.specs.DumpText.{dots}
use Rattle.vcd_text.proofs.selected.dots.Given as goal

abbrev pub invariant-loop-c : goal.invariant-loop-c
invariant-loop-c l = (l.count ≤ l.c-index) × (l.count + dots (drop l.c-index l.path) ≡ dots l.path)
