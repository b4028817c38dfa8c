use Rattle.std.proofs.Common.{false}
use Rattle.vbits.specs.declared.bit4.Bit4.TheVariants.{Zero}
use Rattle.vbits.proofs.LettersOf.{letters_of-run}
use Rattle.vbits.specs.Vectors.{filled}
use Rattle.vbits.proofs.vec4.Vec4.zeros.Goals as goal

pub returns : goal.returns
unfolding filled
returns c = λ i. record { letters = letters_of-run c.args.len Zero i; signed = false }
