use Rattle.std.proofs.Common.{true, false}
use Rattle.vbits.proofs.Integers.{signed-letters, whole_word}
use Rattle.vbits.proofs.planes.wrap.Goals as goal

pub returns-then-negative-clause-digits : goal.returns-then-negative-clause-digits
returns-then-negative-clause-digits c =
    rw (c.ones.ensures, c.if-negative.true) (signed-letters true c.args.len c.args.magnitude c.requires.few c.ranges.magnitude.fits)

pub returns-else-negative-clause-digits : goal.returns-else-negative-clause-digits
returns-else-negative-clause-digits c =
    rw (c.ones-else-negative.ensures, c.if-negative.false)
    (rw (whole_word c.args.magnitude c.ranges.magnitude.fits) at (signed-letters false c.args.len c.args.magnitude c.requires.few c.ranges.magnitude.fits))
