use Rattle.std.proofs.Common.{List, [], None, arith}
use Rattle.explore.specs.Ranked.{Closing}
use Rattle.explore.proofs.RankedLemmas.{nothing_handed}
use Rattle.explore.proofs.RankLoopLemmas.{some_handed}
use Rattle.explore.proofs.ranked.explore_ranked.Goals as goal

pub returns-in-Err-clause-handed : goal.returns-in-Err-clause-handed
returns-in-Err-clause-handed g c =
    let r = g.P.Space.rules c.args.space.now in
    let ranks = g.P.Ranked.ranks c.args.space.now in
    let Has : List (Closing g.row.P-State.Denot) → Type 0 = λ closings. g.C.Collector.collects c.args.collector.now closings c.args.collector.now in
    some_handed r c.args.limits.now ranks Has Has 0 None _ (λ closings has. has) (record {
      closings = [];
      collected = g.met.C.Collector.none c.args.collector.now;
      so = nothing_handed r c.args.limits.now ranks 0 (λ log n run. omega arith);
    })
