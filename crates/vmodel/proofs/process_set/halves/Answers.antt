use Rattle.vmodel.proofs.SetLemmas.{low_half, high_half}
use Rattle.vmodel.proofs.process_set.halves.Goals as goal

pub returns-clause-low : goal.returns-clause-low
returns-clause-low c = low_half c.args.low c.args.high c.ranges.low.fits c.ranges.high.fits

pub returns-clause-high : goal.returns-clause-high
returns-clause-high c = high_half c.args.low c.args.high c.ranges.low.fits c.ranges.high.fits
