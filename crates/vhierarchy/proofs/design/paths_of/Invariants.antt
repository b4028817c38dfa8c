use Rattle.std.proofs.Common.{◌≡◌, ◌++◌, drop}
use Rattle.vhierarchy.specs.Inner.{variable_names}
use Rattle.vhierarchy.proofs.design.paths_of.Given as goal

abbrev pub invariant-loop-variable : goal.invariant-loop-variable
invariant-loop-variable l = l.names ++ variable_names (drop l.variable-index l.variables) ≡ variable_names l.variables
