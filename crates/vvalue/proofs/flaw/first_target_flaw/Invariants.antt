use Rattle.std.proofs.Common.{◌≡◌, drop}
use Rattle.vvalue.specs.Flaws.{first_target_flaw}
use Rattle.vvalue.proofs.flaw.first_target_flaw.Given as goal

abbrev pub invariant-loop-target : goal.invariant-loop-target
invariant-loop-target l = first_target_flaw l.fn.environment (drop l.target-index l.fn.targets) ≡ first_target_flaw l.fn.environment l.fn.targets
