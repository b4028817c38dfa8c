use Rattle.std.proofs.Common.{◌≡◌, ◌++◌, drop}
use Rattle.plain_steps.proofs.state.copy_processes.Given as goal

abbrev pub invariant-loop-process : goal.invariant-loop-process
invariant-loop-process l = l.copied.items ++ drop l.process-index l.processes ≡ l.processes
