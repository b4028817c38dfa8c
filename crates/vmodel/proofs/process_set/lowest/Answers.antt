use Rattle.std.proofs.Common.{sym, arith}
use Rattle.vmodel.proofs.BitLemmas.{lowest_low, lowest_high, lowest_none}
use Rattle.vmodel.proofs.process_set.lowest.Goals as goal

pub returns-then-low-ne0-clause-exact : goal.returns-then-low-ne0-clause-exact
returns-then-low-ne0-clause-exact c =
    sym (lowest_low c.args.low c.args.high (omega (arith, c.if-low-ne0.true)) c.ranges.low.fits)

pub returns-then-high-ne0-clause-exact : goal.returns-then-high-ne0-clause-exact
returns-then-high-ne0-clause-exact c =
    sym (lowest_high c.args.low c.args.high (omega (arith, c.if-low-ne0.false)) (omega (arith, c.if-high-ne0.true)) c.ranges.high.fits)

pub returns-else-high-ne0-clause-exact : goal.returns-else-high-ne0-clause-exact
returns-else-high-ne0-clause-exact c =
    lowest_none c.args.low c.args.high (omega (arith, c.if-low-ne0.false)) (omega (arith, c.if-high-ne0.false))
