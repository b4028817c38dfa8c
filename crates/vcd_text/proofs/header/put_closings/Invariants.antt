use Rattle.std.proofs.Common.{◌≡◌, ◌-◌, ◌++◌}
use Rattle.vcd_text.specs.DumpText.{closings}
use Rattle.vcd_text.proofs.header.put_closings.Given as goal

abbrev pub invariant-loop : goal.invariant-loop
invariant-loop l = l.text.items ++ closings (l.count - l.counter) ≡ l.initial.text.items ++ closings l.count
