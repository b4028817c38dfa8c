use Rattle.std.proofs.Common.{ℕ, ◌∙◌, subst}
use Rattle.explore.specs.Inner.RankedSearches.{GoesFrom, HasClosed, HasHandedOn, IsFollowed}
use Rattle.explore.proofs.RankLoopLemmas.{stays_so}
use Rattle.explore.proofs.ranked.close_rank.Goals as goal

pub returns-in_err-forget_ways-clause-kept : goal.returns-in_err-forget_ways-clause-kept
returns-in_err-forget_ways-clause-kept g c = stays_so g.C.Collector.collects c.args.collector.now c.from_residual.result

pub returns-in_err-visit_rank-clause-kept : goal.returns-in_err-visit_rank-clause-kept
returns-in_err-visit_rank-clause-kept g c = stays_so g.C.Collector.collects c.args.collector.now c.from_residual-in_err-visit_rank.result

pub returns-clause-closed : goal.returns-clause-closed
returns-clause-closed g c =
    let r = g.P.Space.rules c.args.space.now in
    let ranks = g.P.Ranked.ranks c.args.space.now in
    let P : ℕ → Type 0 = λ n. GoesFrom g.C.Collector.collects (HasHandedOn r c.args.limits.now ranks n) (HasClosed r c.args.limits.now ranks n) c.args.collector.now c.hand_on.new.collector in
    subst P (c.in_ok-visit_rank.ensures.rank ∙ c.forget_ways.ensures.rank) c.in_ok-hand_on.ensures.closed

pub returns-clause-followed : goal.returns-clause-followed
returns-clause-followed g c =
    let P : ℕ → Type 0 = λ n. IsFollowed (g.P.Space.rules c.args.space.now) c.args.limits.now (g.P.Ranked.ranks c.args.space.now) n c.go_on.new.search c.go_on.result in
    subst P (c.in_ok-visit_rank.ensures.rank ∙ c.forget_ways.ensures.rank) c.go_on.ensures
