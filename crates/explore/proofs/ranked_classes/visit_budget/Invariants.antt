use Rattle.std.proofs.Common.{◌-◌, ◌^◌}
use Rattle.explore.specs.Inner.RankedSearches.{IsLedOn, IsRankedSearch, RankGrows}
use Rattle.explore.proofs.ClassLemmas.{EachUpTo}
use Rattle.explore.proofs.ranked_classes.visit_budget.Given as goal

abbrev pub invariant-loop-place : goal.invariant-loop-place
invariant-loop-place g l = record {
  searching : IsRankedSearch (g.P.Space.rules l.space) l.limits (g.P.Ranked.ranks l.space) l.search;
  grows : RankGrows l.initial.search l.search l.budget;
  led : EachUpTo (IsLedOn (g.P.Space.rules l.space) l.search) l.search.current.book l.budget l.place;
}

abbrev pub decreases-loop-place : goal.decreases-loop-place
decreases-loop-place g l = 2 ^ 64 - l.place
