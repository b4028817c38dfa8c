use Rattle.std.proofs.Common.{sym, ◌∙◌}
use Rattle.vbits.proofs.Integers.{magnitude-plain, magnitude-below}
use Rattle.vbits.proofs.planes.magnitude.Goals as goal

pub returns-then-sign_bit-eq0 : goal.returns-then-sign_bit-eq0
returns-then-sign_bit-eq0 c =
    magnitude-plain c.args.signed c.args.len c.args.plane c.requires.some c.requires.within (sym c.sign_bit.ensures ∙ c.if-sign_bit-eq0.true)

pub returns-else-sign_bit-eq0 : goal.returns-else-sign_bit-eq0
returns-else-sign_bit-eq0 c =
    rw c.ones.ensures
    (magnitude-below c.args.signed c.args.len c.args.plane c.requires.some c.requires.within (λ e. c.if-sign_bit-eq0.false (c.sign_bit.ensures ∙ e)))
