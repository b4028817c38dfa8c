use Rattle.std.proofs.Common.{refl}
use Rattle.vbits.specs.Vectors.{single}
use Rattle.vbits.proofs.vec4.Vec4.of_bit.Goals as goal
use Rattle.vbits.proofs.vec4.Vec4.of_bit.Goals.{in-Zero, in-One, in-X, in-Z}

pub returns : goal.returns
unfolding single
returns c =
    elim c.match-letter.branch [
      | in-Zero w ↦ rw (w.value-is, w.in-Zero.is) refl
      | in-One w ↦ rw (w.value-is, w.in-One.is) refl
      | in-X w ↦ rw (w.value-is, w.in-X.is) refl
      | in-Z w ↦ rw (w.value-is, w.in-Z.is) refl
    ]
