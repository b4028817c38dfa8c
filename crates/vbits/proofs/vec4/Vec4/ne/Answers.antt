use Rattle.std.proofs.Common.{refl}
use Rattle.vbits.specs.Vectors.{ne}
use Rattle.vbits.proofs.vec4.Vec4.ne.Goals as goal
use Rattle.vbits.proofs.vec4.Vec4.ne.Goals.{in-Zero, in-One, in-X, in-Z}

pub returns : goal.returns
unfolding ne
returns c =
    rw (c.of_bit.ensures, ← c.equality.ensures)
    (elim c.match-equality.branch [
      | in-Zero w ↦ rw (w.of_bit-is, w.in-Zero.is) refl
      | in-One w ↦ rw (w.of_bit-is, w.in-One.is) refl
      | in-X w ↦ rw (w.of_bit-is, w.in-X.is) refl
      | in-Z w ↦ rw (w.of_bit-is, w.in-Z.is) refl
    ])
