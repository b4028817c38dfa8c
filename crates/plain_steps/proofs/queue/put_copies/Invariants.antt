use Rattle.std.proofs.Common.{◌≡◌, ◌++◌, drop}
use Rattle.plain_steps.proofs.queue.put_copies.Given as goal

abbrev pub invariant-loop-update : goal.invariant-loop-update
invariant-loop-update l = l.copied.items ++ drop l.update-index l.updates ≡ l.fn.copied.items ++ l.updates
