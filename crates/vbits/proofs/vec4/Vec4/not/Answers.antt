use Rattle.vbits.proofs.Operands.{complement-planes, complement-view}
use Rattle.vbits.proofs.vec4.Vec4.not.Goals as goal

pub invariant_of-result : goal.invariant_of-result
invariant_of-result c = rw c.ones.ensures (complement-planes _ _ _ c.self.invariant)

pub returns : goal.returns
returns c = rw c.ones.ensures (complement-view _ _ _ _ _ c.self.view_is)
