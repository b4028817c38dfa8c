use Rattle.std.proofs.Common.{arith}
use Rattle.explore.proofs.ListingLemmas.{all_listed, nothing_listed, one_more, wanted}
use Rattle.explore.proofs.listing.list_seen.Goals as goal

pub loop-seen-init : goal.loop-seen-init
loop-seen-init g c = nothing_listed (g.P.Space.rules c.args.space.now) c.args.limits.now g.P.State.PartialEq.eq c.args.all.now c.new-marks.result.entries c.new-marks.ensures.empty c.new-marks.ensures.unique

pub list_entry-requires-clause-allowed : goal.list_entry-requires-clause-allowed
list_entry-requires-clause-allowed g c = λ κs within. wanted g.Q.SearchParameters.rules g.Q.SearchParameters.depart g.Q.SearchParameters.steps (g.P.Space.rules c.args.space.now) c.args.limits.now c.read.result.now c.requires c.read.ensures.wanted

pub list_entry-requires-clause-found : goal.list_entry-requires-clause-found
list_entry-requires-clause-found g c = λ κs within. c.loop-seen.invariant.found

pub list_entry-requires-clause-distinct : goal.list_entry-requires-clause-distinct
list_entry-requires-clause-distinct g c = λ κs within. c.loop-seen.invariant.apart

pub loop-seen-preserved : goal.loop-seen-preserved
loop-seen-preserved g c =
    one_more (g.P.Space.rules c.args.space.now) c.args.limits.now g.P.State.PartialEq.eq c.args.all.now c.loop-seen.seen-index c.seen-item.result c.read.result.now c.loop-seen.marks.entries c.list_entry.new.marks.entries
    c.loop-seen.invariant c.seen-item.is c.loop-seen-test.true c.read.ensures.same c.in_ok-list_entry.ensures.found c.in_ok-list_entry.ensures.distinct c.in_ok-list_entry.ensures.listed c.in_ok-list_entry.ensures.kept

pub returns-clause-found : goal.returns-clause-found
returns-clause-found g c = c.loop-seen.invariant.found

pub returns-clause-each : goal.returns-clause-each
returns-clause-each g c = all_listed (g.P.Space.rules c.args.space.now) c.args.limits.now g.P.State.PartialEq.eq c.args.all.now c.loop-seen.seen-index c.loop-seen.marks.entries c.loop-seen.invariant (omega (arith, c.loop-seen-test.false))

pub returns-clause-distinct : goal.returns-clause-distinct
returns-clause-distinct g c = c.loop-seen.invariant.apart
