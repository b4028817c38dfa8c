use Rattle.std.proofs.Common.{◌≡◌, ◌+◌, ◌≤◌, min, drop}
use Rattle.vvalue.specs.Targets.{targets_size}
use Rattle.expression_code.specs.Shapes.{declared}
use Rattle.expression_code.proofs.guard.targets_size.Given as goal

abbrev pub invariant-loop-target : goal.invariant-loop-target
invariant-loop-target l =
    (l.size ≤ 64)
    × (min 64 (l.size + targets_size (declared l.fn.variables) (drop l.target-index l.fn.targets)) ≡ min 64 (targets_size (declared l.fn.variables) l.fn.targets))
