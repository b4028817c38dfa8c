use Rattle.vbits.specs.declared.bit4.Bit4.TheVariants.{X}
use Rattle.vbits.specs.Vectors.{filled, with_sign}
use Rattle.vbits.proofs.LettersOf.{letters_of-run}
use Rattle.vbits.proofs.vec4.Vec4.unknowns.Goals as goal

pub returns : goal.returns
unfolding filled with_sign
returns c =
    rw c.ones-ones.ensures
    (λ i. record { letters = letters_of-run c.args.len X i; signed = c.args.signed })
