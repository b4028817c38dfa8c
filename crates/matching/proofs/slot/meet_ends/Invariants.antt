use Rattle.std.specs.Vec.Iter.{into_iter_items}
use Rattle.matching.specs.Inner.Candidates.{EndsNear, IsFittingEnd}
use Rattle.matching.specs.Inner.FoundEnds.{ends_of}
use Rattle.matching.specs.Inner.Searching.{AddsNear, Extends, IsSearch}
use Rattle.matching.proofs.Ends.{TakenIn}
use Rattle.matching.proofs.slot.meet_ends.Given as goal

abbrev pub invariant-loop-found : goal.invariant-loop-found
invariant-loop-found g l = record {
  search : IsSearch g.P.State.PartialEq.eq (g.P.Space.rules l.space) (g.P.Ranked.ranks l.space) l.search;
  extends : Extends (g.P.Space.rules l.space)
      (IsFittingEnd (g.P.Space.rules l.space) (g.P.Ranked.ranks l.space) (g.R.Reference.piece l.reference).differ l.limits.depart
      l.start) l.fn.search l.search;
  near : AddsNear (EndsNear (g.P.Space.rules l.space) l.limits.depart l.start) l.fn.search l.search;
  taken : TakenIn (g.P.Space.rules l.space) l.limits (g.R.Reference.piece l.reference).differ l.start (ends_of l.fn.ends.items)
      (ends_of (into_iter_items l.found-iterator)) l.search.candidates.entries;
}
