use Rattle.std.proofs.Common.{◌≡◌, ◌+◌, ◌-◌}
use Rattle.explore.specs.Inner.RankedSearches.{IsLedOn, IsRankedSearch}
use Rattle.explore.proofs.ClassLemmas.{EachFrom}
use Rattle.explore.proofs.ranked_classes.visit_rank.Given as goal

abbrev pub invariant-loop-departures : goal.invariant-loop-departures
invariant-loop-departures g l = record {
  searching : IsRankedSearch (g.P.Space.rules l.space) l.limits (g.P.Ranked.ranks l.space) l.search;
  rank : l.search.current.rank ≡ l.initial.search.current.rank;
  led : EachFrom (IsLedOn (g.P.Space.rules l.space) l.search) l.search.current.book (l.limits.depart + 1 - l.departures);
}
