use Rattle.explore.proofs.ListingLemmas.{ListedUpTo}
use Rattle.explore.proofs.listing.list_seen.Given as goal

abbrev pub invariant-loop-seen : goal.invariant-loop-seen
invariant-loop-seen g l = ListedUpTo (g.P.Space.rules l.space) l.limits g.P.State.PartialEq.eq l.all l.seen-index l.marks.entries
