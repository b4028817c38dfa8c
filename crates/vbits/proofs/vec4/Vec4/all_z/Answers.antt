use Rattle.std.proofs.Common.{false}
use Rattle.vbits.specs.declared.bit4.Bit4.TheVariants.{Z}
use Rattle.vbits.proofs.LettersOf.{letters_of-run}
use Rattle.vbits.specs.Vectors.{filled}
use Rattle.vbits.proofs.vec4.Vec4.all_z.Goals as goal

pub returns : goal.returns
unfolding filled
returns c = rw c.ones.ensures (λ i. record { letters = letters_of-run c.args.len Z i; signed = false })
