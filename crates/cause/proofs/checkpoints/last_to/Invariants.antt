use Rattle.std.proofs.Common.{◌≤◌, length}
use Rattle.cause.proofs.checkpoints.last_to.Given as goal

abbrev pub invariant-loop-k : goal.invariant-loop-k
invariant-loop-k l = l.k ≤ length l.list

abbrev pub decreases-loop-k : goal.decreases-loop-k
decreases-loop-k l = l.k
