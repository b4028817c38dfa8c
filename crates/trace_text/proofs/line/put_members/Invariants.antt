use Rattle.std.proofs.Common.{◌≡◌, ◌++◌, drop}
use Rattle.trace_text.specs.Traces.{numbers_text}
use Rattle.trace_text.proofs.line.put_members.Given as goal

abbrev pub invariant-loop-i : goal.invariant-loop-i
invariant-loop-i l = l.text.items ++ numbers_text (drop l.i l.set) ≡ l.initial.text.items ++ numbers_text l.set
