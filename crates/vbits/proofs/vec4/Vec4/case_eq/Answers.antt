use Rattle.std.proofs.Common.{refl}
use Rattle.vbits.specs.Vectors.{case_eq}
use Rattle.vbits.proofs.vec4.Vec4.case_eq.Goals as goal
use Rattle.vbits.proofs.vec4.Vec4.case_eq.Goals.{then-is_same, else-is_same}

pub returns : goal.returns
unfolding case_eq
returns c =
    rw (c.of_bit.ensures, c.is_same.ensures)
    (elim c.if-is_same.branch [
      | then-is_same w ↦ rw (w.of_bit-is, w.if-is_same.true) refl
      | else-is_same w ↦ rw (w.of_bit-is, w.if-is_same.false) refl
    ])
