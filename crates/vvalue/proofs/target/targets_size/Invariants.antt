use Rattle.std.proofs.Common.{◌≡◌, ◌+◌, ◌≤◌, min, drop}
use Rattle.vvalue.specs.Targets.{targets_size}
use Rattle.vvalue.proofs.target.targets_size.Given as goal

abbrev pub invariant-loop-target : goal.invariant-loop-target
invariant-loop-target l =
    (l.size ≤ 65)
    × (min 65 (l.size + targets_size l.fn.environment (drop l.target-index l.fn.targets)) ≡ min 65 (targets_size l.fn.environment l.fn.targets))
