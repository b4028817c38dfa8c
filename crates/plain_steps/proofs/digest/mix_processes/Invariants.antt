use Rattle.std.proofs.Common.{◌≡◌, drop}
use Rattle.vmodel.specs.Digest.{digest_of_processes}
use Rattle.plain_steps.proofs.digest.mix_processes.Given as goal

abbrev pub invariant-loop-process : goal.invariant-loop-process
invariant-loop-process l = digest_of_processes l.digest (drop l.process-index l.processes) ≡ digest_of_processes l.first l.processes
