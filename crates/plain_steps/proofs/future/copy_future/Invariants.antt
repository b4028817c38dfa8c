use Rattle.std.proofs.Common.{◌≡◌, ◌++◌, drop}
use Rattle.plain_steps.proofs.future.copy_future.Given as goal

abbrev pub invariant-loop-entry : goal.invariant-loop-entry
invariant-loop-entry l = l.copied.items ++ drop l.entry-index l.future ≡ l.future
