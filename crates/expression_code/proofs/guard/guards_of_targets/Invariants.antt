use Rattle.std.proofs.Common.{◌≡◌, drop, []}
use Rattle.expression_code.specs.Guards.{with_guards, sized_by}
use Rattle.expression_code.proofs.guard.guards_of_targets.Given as goal

abbrev pub invariant-loop-target : goal.invariant-loop-target
invariant-loop-target l =
    with_guards l.fn.variables (sized_by (drop l.target-index l.fn.targets)) l.guards.items ≡ with_guards l.fn.variables (sized_by l.fn.targets) []
