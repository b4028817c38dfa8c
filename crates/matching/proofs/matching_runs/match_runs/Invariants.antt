use Rattle.std.proofs.Common.{◌≡◌, ◌-◌, ◌^◌, IfNone}
use Rattle.matching.specs.Inner.Searching.{IsSearch, HasSearchedTo}
use Rattle.matching.proofs.matching_runs.match_runs.Given as goal

abbrev pub invariant-loop-next : goal.invariant-loop-next
invariant-loop-next g l = record {
  upcoming : l.upcoming ≡ g.R.Reference.upcoming l.reference;
  done : IfNone l.upcoming (g.R.Reference.done l.reference);
  search : IsSearch g.P.State.PartialEq.eq (g.P.Space.rules l.space) (g.P.Ranked.ranks l.space) l.search;
  way : HasSearchedTo (g.P.Space.rules l.space) (g.P.Ranked.ranks l.space) l.limits.depart g.R.Reference.piece g.R.Reference.upcoming
      g.R.Reference.reads l.fn.reference l.reference l.search.time l.search.candidates.entries l.search.ending l.search.waiting;
}

abbrev pub decreases-loop-next : goal.decreases-loop-next
decreases-loop-next g l = 2 ^ 64 - l.search.time
