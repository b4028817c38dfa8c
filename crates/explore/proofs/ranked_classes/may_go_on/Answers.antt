use Rattle.std.proofs.Common.{arith}
use Rattle.explore.proofs.RankedLemmas.{has_opened}
use Rattle.explore.proofs.ranked_classes.may_go_on.Goals as goal

pub returns-then-search-limits : goal.returns-then-search-limits
returns-then-search-limits g c = record {
  why = has_opened (g.P.Space.rules c.args.space.now) c.args.limits.now (g.P.Ranked.ranks c.args.space.now) c.args.search.now c.requires (omega (arith, c.if-search-limits.true));
}
