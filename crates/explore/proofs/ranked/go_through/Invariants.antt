use Rattle.std.proofs.Common.{◌-◌, ◌^◌}
use Rattle.explore.specs.Inner.RankedSearches.{HasCollected, IsRankedSearch, IsUnderWay}
use Rattle.explore.proofs.ranked.go_through.Given as goal

abbrev pub invariant-loop-closed : goal.invariant-loop-closed
invariant-loop-closed g l = record {
  searching : IsRankedSearch (g.P.Space.rules l.space) l.limits (g.P.Ranked.ranks l.space) l.search;
  collected : HasCollected (λ closings. g.C.Collector.collects l.fn.collector closings l.collector) (IsUnderWay (g.P.Space.rules l.space) l.limits (g.P.Ranked.ranks l.space) l.search.current.rank l.closed);
}

abbrev pub decreases-loop-closed : goal.decreases-loop-closed
decreases-loop-closed g l = 2 ^ 64 - l.search.current.rank
