use Rattle.explore.proofs.RankedLemmas.{knows_instead}
use Rattle.explore.proofs.ranked.forget_ways.Goals as goal

pub returns-in_ok-search-clause-searching : goal.returns-in_ok-search-clause-searching
returns-in_ok-search-clause-searching g c =
    knows_instead (g.P.Space.rules c.args.space.now) c.args.limits.now (g.P.Ranked.ranks c.args.space.now) c.args.search.now _ c.requires c.in_ok-search.ensures.searching
