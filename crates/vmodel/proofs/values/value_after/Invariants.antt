use Rattle.std.proofs.Common.{◌≡◌, drop}
use Rattle.vmodel.specs.Parts.{value_in, with_parts}
use Rattle.vmodel.specs.Inner.{over_all}
use Rattle.vmodel.proofs.values.value_after.Given as goal

abbrev pub invariant-loop-part : goal.invariant-loop-part
invariant-loop-part l = over_all (drop l.part-index l.fn.parts) l.fn.variable l.value ≡ value_in (with_parts l.fn.parts l.fn.values) l.fn.variable
