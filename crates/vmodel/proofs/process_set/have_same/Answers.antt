use Rattle.vmodel.proofs.BitLemmas.{words_alike, words_differ}
use Rattle.vmodel.proofs.process_set.have_same.Goals as goal

pub returns-then-low-other_low : goal.returns-then-low-other_low
returns-then-low-other_low c =
    words_alike c.args.low c.args.high c.args.other_low c.args.other_high c.ranges.low.fits c.ranges.other_low.fits c.ranges.high.fits c.ranges.other_high.fits c.if-low-other_low.true

pub returns-else-low-other_low : goal.returns-else-low-other_low
returns-else-low-other_low c =
    words_differ c.args.low c.args.high c.args.other_low c.args.other_high c.ranges.low.fits c.ranges.other_low.fits c.ranges.high.fits c.ranges.other_high.fits c.if-low-other_low.false
