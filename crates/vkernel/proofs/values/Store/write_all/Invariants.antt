use Rattle.std.proofs.Common.{◌≡◌, drop}
use Rattle.vmodel.specs.Parts.{with_parts}
use Rattle.vkernel.proofs.values.Store.write_all.Given as goal

abbrev pub invariant-loop-part : goal.invariant-loop-part
invariant-loop-part l = with_parts (drop l.part-index l.parts) l.self ≡ with_parts l.parts l.fn.self
