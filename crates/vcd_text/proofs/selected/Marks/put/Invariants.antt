use Rattle.std.proofs.Common.{◌≡◌, ◌++◌, replicate}
use Rattle.vcd_text.proofs.selected.Marks.put.Given as goal

abbrev pub invariant-loop : goal.invariant-loop
invariant-loop l = l.self-inside.list.items ≡ l.initial.self-inside.list.items ++ replicate l.counter l.mark
