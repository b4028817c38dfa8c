use Rattle.std.proofs.Common.{take}
use Rattle.sched_core.specs.Rules.{NamesBelow}
use Rattle.cause.proofs.slot.left_at.Given as goal

abbrev pub invariant-loop-place : goal.invariant-loop-place
invariant-loop-place l = NamesBelow (take l.place l.members) l.step
