use Rattle.std.proofs.Common.{◌≡◌, ◌++◌, drop, map}
use Rattle.velab_declaration.specs.ActionFlaws.{blank}
use Rattle.velab_declaration.proofs.width.blanks.Given as goal

abbrev pub invariant-loop-variable : goal.invariant-loop-variable
invariant-loop-variable l = l.values.items ++ map blank (drop l.variable-index l.variables) ≡ map blank l.variables
