use Rattle.std.proofs.Common.{false}
use Rattle.vbits.proofs.LettersOf.{digits-low}
use Rattle.vbits.specs.Vectors.{of_number}
use Rattle.vbits.proofs.vec4.Vec4.from_u64.Goals as goal

pub returns : goal.returns
unfolding of_number
returns c = rw c.ones.ensures (λ i. record { letters = digits-low c.args.len c.args.n i; signed = false })
