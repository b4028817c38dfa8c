use Rattle.std.proofs.Common.{arith, sym}
use Rattle.matching.proofs.Kept.{earliest_all, earliest_more}
use Rattle.matching.proofs.candidates.earliest.Goals as goal

pub loop-place-preserved : goal.loop-place-preserved
loop-place-preserved g c =
    earliest_more c.args.candidates.now.entries c.loop-place.place c.args.until c.loop-place.least c.earlier-least.result
    (c.in-Some.field-0-0.now, c.in-Some.way.now) c.loop-place.invariant (sym c.in-Some.ensures.entry) c.earlier-least.ensures

pub returns : goal.returns
returns g c =
    earliest_all c.args.candidates.now.entries c.loop-place.place c.args.until c.loop-place.least c.loop-place.invariant
    (omega (arith, c.len-place-end.ensures.len, c.loop-place-test.false))
