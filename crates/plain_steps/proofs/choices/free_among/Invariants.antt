use Rattle.std.proofs.Common.{◌≡◌, length}
use Rattle.vmodel.specs.Choices.{free_among}
use Rattle.plain_steps.proofs.choices.free_among.Given as goal

abbrev pub invariant-loop-process : goal.invariant-loop-process
invariant-loop-process l = free_among l.rest l.free ≡ free_among l.initial.rest l.initial.free

abbrev pub decreases-loop-process : goal.decreases-loop-process
decreases-loop-process l = length l.rest
