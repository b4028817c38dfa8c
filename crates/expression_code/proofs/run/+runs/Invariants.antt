use Rattle.std.proofs.Common.{length, ◌+◌, ◌*◌}
use Rattle.expression_code.proofs.run.+runs.Given as goal

abbrev pub decreases-run_first : goal.decreases-run_first
decreases-run_first l = 2 * length l.operations.now

abbrev pub decreases-run_operation : goal.decreases-run_operation
decreases-run_operation l = 2 * length l.behind.now + 1
