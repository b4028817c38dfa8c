use Rattle.std.proofs.Common.{◌≡◌, drop}
use Rattle.trace_text.specs.Traces.{has_part}
use Rattle.trace_text.proofs.line.has_part.Given as goal

abbrev pub invariant-loop-part : goal.invariant-loop-part
invariant-loop-part l = has_part (drop l.part-index l.parts) l.variable ≡ has_part l.parts l.variable
