use Rattle.std.proofs.Common.{◌≡◌, drop}
use Rattle.velab_declaration.specs.Right.{writes_variables}
use Rattle.velab_declaration.proofs.right.writes_variables.Given as goal

abbrev pub invariant-loop-target : goal.invariant-loop-target
invariant-loop-target l = writes_variables l.variables (drop l.target-index l.targets) ≡ writes_variables l.variables l.targets
