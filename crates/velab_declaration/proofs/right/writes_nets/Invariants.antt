use Rattle.std.proofs.Common.{◌≡◌, drop}
use Rattle.velab_declaration.specs.Right.{writes_nets}
use Rattle.velab_declaration.proofs.right.writes_nets.Given as goal

abbrev pub invariant-loop-target : goal.invariant-loop-target
invariant-loop-target l = writes_nets l.variables (drop l.target-index l.targets) ≡ writes_nets l.variables l.targets
