use Rattle.std.proofs.Common.{ap, ◌∙◌}
use Rattle.vbits.specs.Vectors.{eq, single}
use Rattle.vbits.proofs.vec4.Vec4.eq.Goals as goal

pub returns : goal.returns
unfolding eq
returns c = c.of_bit.ensures ∙ ap single c.equality.ensures
