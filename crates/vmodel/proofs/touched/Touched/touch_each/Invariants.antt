use Rattle.std.proofs.Common.{ℕ, List, Option, drop}
use Rattle.vmodel.specs.Touched.{TouchesToo, variables_of}
use Rattle.vmodel.proofs.touched.Touched.touch_each.Given as goal

-- what touching the rest does, touching all does
abbrev pub invariant-loop-part : goal.invariant-loop-part
invariant-loop-part l = (new : Option (List ℕ)) → TouchesToo (variables_of (drop l.part-index l.parts)) l.self new → TouchesToo (variables_of l.parts) l.initial.self new
