use Rattle.std.proofs.Common.{[]}
use Rattle.explore.proofs.ListingLemmas.{nothing_listed, wanted}
use Rattle.explore.proofs.listing.list_met.Goals as goal

pub loop-place-init : goal.loop-place-init
loop-place-init g c = record {
  found = (nothing_listed (g.P.Space.rules c.args.space.now) c.args.limits.now g.P.State.PartialEq.eq [] c.new-marks.result.entries c.new-marks.ensures.empty c.new-marks.ensures.unique).found;
  distinct = c.new-marks.ensures.unique;
}

pub list_entry-requires-clause-allowed : goal.list_entry-requires-clause-allowed
list_entry-requires-clause-allowed g c = λ κs within. wanted g.Q.SearchParameters.rules g.Q.SearchParameters.depart g.Q.SearchParameters.steps (g.P.Space.rules c.args.space.now) c.args.limits.now c.read.result.now c.requires c.read.ensures.wanted
