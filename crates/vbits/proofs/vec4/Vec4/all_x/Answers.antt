use Rattle.vbits.specs.Vectors.{filled, with_sign}
use Rattle.vbits.proofs.vec4.Vec4.all_x.Goals as goal

pub returns : goal.returns
unfolding filled with_sign
returns c = c.unknowns.ensures
