use Rattle.std.proofs.Common.{◌≡◌, ◌≤◌, ◌++◌, drop, length}
use Rattle.vvalue.specs.Targets.{targets_size}
use Rattle.vmodel.specs.Value.{shared_parts}
use Rattle.vmodel.proofs.value.shared_parts.Given as goal

abbrev pub invariant-loop-target : goal.invariant-loop-target
invariant-loop-target l =
    (l.behind ≡ targets_size l.fn.environment (drop l.target-index l.fn.targets))
    × (l.behind ≤ length l.fn.value.letters)
    × (l.parts.items ++ shared_parts l.fn.environment (drop l.target-index l.fn.targets) l.fn.value.letters ≡ shared_parts l.fn.environment l.fn.targets l.fn.value.letters)
