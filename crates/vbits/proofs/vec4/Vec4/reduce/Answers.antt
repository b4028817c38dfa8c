use Rattle.std.proofs.Common.{refl}
use Rattle.vbits.specs.Vectors.{reduce, reduced, truth}
use Rattle.vbits.proofs.Reductions.{or_zero}
use Rattle.vbits.proofs.vec4.Vec4.reduce.Goals as goal
use Rattle.vbits.proofs.vec4.Vec4.reduce.Goals.{in-And, in-Nand, in-Or, in-Nor, in-Xor, in-Xnor}

pub returns : goal.returns
unfolding reduce reduced truth
returns c =
    rw c.of_bit.ensures
    (elim c.match-operator.branch [
      | in-And w ↦ rw (w.of_bit-is, w.in-And.is, w.all.ensures) refl
      | in-Nand w ↦ rw (w.of_bit-is, w.in-Nand.is, w.not.ensures, w.all-in-Nand.ensures) refl
      | in-Or w ↦ rw (w.of_bit-is, w.in-Or.is, w.truth.ensures, or_zero) refl
      | in-Nor w ↦ rw (w.of_bit-is, w.in-Nor.is, w.not-in-Nor.ensures, w.truth-in-Nor.ensures, or_zero) refl
      | in-Xor w ↦ rw (w.of_bit-is, w.in-Xor.is, w.parity.ensures) refl
      | in-Xnor w ↦ rw (w.of_bit-is, w.in-Xnor.is, w.not-in-Xnor.ensures, w.parity-in-Xnor.ensures) refl
    ])
