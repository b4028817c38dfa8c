use Rattle.std.proofs.Common.{Some, drop}
use Rattle.vmodel.specs.Touched.{ChangesOnly}
use Rattle.vmodel.proofs.values.Values.assign_each.Given as goal

abbrev pub invariant-loop-variable : goal.invariant-loop-variable
invariant-loop-variable l = ChangesOnly (Some (drop l.variable-index l.variables)) l.self l.values
