use Rattle.std.proofs.Common.{◌≡◌, ◌++◌, drop, map}
use Rattle.vmodel.specs.Run.{opening_value}
use Rattle.vmodel.proofs.values.Values.opening.Given as goal

abbrev pub invariant-loop-variable : goal.invariant-loop-variable
invariant-loop-variable l =
    l.list.items ++ map opening_value (drop l.variable-index l.variables) ≡ map opening_value l.variables
