use Rattle.explore.specs.Inner.RankedSearches.{IsRankedSearch, RankGrowsFrom}
use Rattle.explore.proofs.RankedLemmas.{MetUpTo}
use Rattle.explore.proofs.ranked_visit.visit_entry.Given as goal

abbrev pub invariant-loop-choice : goal.invariant-loop-choice
invariant-loop-choice g l = record {
  searching : IsRankedSearch (g.P.Space.rules l.space) l.limits (g.P.Ranked.ranks l.space) l.search;
  grows : RankGrowsFrom l.initial.search l.search l.place;
  met : MetUpTo (g.P.Space.rules l.space) l.initial.search l.search l.place l.choice;
}
