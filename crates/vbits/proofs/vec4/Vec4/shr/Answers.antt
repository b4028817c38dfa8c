use Rattle.vbits.specs.Vectors.{shr}
use Rattle.vbits.proofs.vec4.Vec4.shr.Goals as goal

pub returns : goal.returns
unfolding shr
returns c = c.shifted_right.ensures
