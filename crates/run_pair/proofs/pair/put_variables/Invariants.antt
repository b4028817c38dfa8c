use Rattle.std.proofs.Common.{◌≡◌, ◌++◌, drop, map}
use Rattle.run_pair.specs.Pairs.{variable_in}
use Rattle.run_pair.proofs.pair.put_variables.Given as goal

abbrev pub invariant-loop-variable : goal.invariant-loop-variable
invariant-loop-variable l = l.all.items ++ map (variable_in l.scope) (drop l.variable-index l.variables) ≡ l.initial.all.items ++ map (variable_in l.scope) l.variables
