use Rattle.std.proofs.Common.{ℕ, List, [], Some, ap, sym, subst}
use Rattle.explore.specs.Ranked.{Closing}
use Rattle.explore.specs.Inner.RankedSearches.{GoesOnTo, HasClosed, HasCollected, HasHandedOn, IsUnderWay, NoneAbove}
use Rattle.explore.proofs.RankedLemmas.{handed_below, nothing_handed}
use Rattle.explore.proofs.RankLoopLemmas.{all_handed, collected_so, rank_nearer, some_handed}
use Rattle.explore.proofs.ranked.go_through.Given.{Over}
use Rattle.explore.proofs.ranked.go_through.Goals as goal
use Rattle.explore.proofs.ranked.go_through.Goals.{In-Ok-true}

-- the next rank is under way
next : (g : Over) (c : In-Ok-true g) → GoesOnTo (g.P.Space.rules c.args.space.now) c.args.limits.now (g.P.Ranked.ranks c.args.space.now) c.loop-closed.search.current.rank c.close_rank.new.search
next g c = rw c.in-Ok-true.field-0-test at c.in-Ok-true.ensures.followed

pub loop-closed-init : goal.loop-closed-init
loop-closed-init g c = record {
  searching = c.requires.searching;
  collected = record {
    closings = [];
    collected = g.met.C.Collector.none c.args.collector.now;
    so = nothing_handed (g.P.Space.rules c.args.space.now) c.args.limits.now (g.P.Ranked.ranks c.args.space.now) c.args.search.current.rank c.requires.lowest;
  };
}

pub loop-closed-smaller : goal.loop-closed-smaller
loop-closed-smaller g c =
    rank_nearer c.loop-closed.search.current.rank c.rank_of-rank.result c.close_rank.new.search.current.rank c.rank_of-rank.ensures c.rank_of-rank.type_inv (next g (goal.at.loop-closed-smaller g c).In-Ok-true).higher

pub loop-closed-preserved : goal.loop-closed-preserved
loop-closed-preserved g c =
    let r = g.P.Space.rules c.args.space.now in
    let ranks = g.P.Ranked.ranks c.args.space.now in
    let least = c.loop-closed.search.current.rank in
    let above = c.close_rank.new.search.current.rank in
    let later = next g (goal.at.loop-closed-preserved g c).In-Ok-true in
    let Has : List (Closing g.row.P-State.Denot) → Type 0 = λ closings. g.C.Collector.collects c.args.collector.now closings c.close_rank.new.collector in
    let Had : List (Closing g.row.P-State.Denot) → Type 0 = λ closings. g.C.Collector.collects c.args.collector.now closings c.loop-closed.collector in
    let way = collected_so Had (IsUnderWay r c.args.limits.now ranks least c.loop-closed.closed) (HasHandedOn r c.args.limits.now ranks least) (λ closings under. under.handed) c.loop-closed.invariant.collected in
    let P : ℕ → Type 0 = λ n. HasCollected Has (IsUnderWay r c.args.limits.now ranks above (Some n)) in
    record {
      searching = later.searching;
      collected = subst P (sym c.rank_of-rank.ensures)
          (collected_so Has (HasClosed r c.args.limits.now ranks least) (IsUnderWay r c.args.limits.now ranks above (Some least))
          (λ closings closed. handed_below r c.args.limits.now ranks closings least above closed later.higher later.none) (c.in-Ok-true.ensures.closed c.args.collector.now way));
    }

pub returns-in-Ok-false-clause-handed : goal.returns-in-Ok-false-clause-handed
returns-in-Ok-false-clause-handed g c =
    let r = g.P.Space.rules c.args.space.now in
    let ranks = g.P.Ranked.ranks c.args.space.now in
    let least = c.loop-closed.search.current.rank in
    let Has : List (Closing g.row.P-State.Denot) → Type 0 = λ closings. g.C.Collector.collects c.args.collector.now closings c.close_rank.new.collector in
    let Had : List (Closing g.row.P-State.Denot) → Type 0 = λ closings. g.C.Collector.collects c.args.collector.now closings c.loop-closed.collector in
    let way = collected_so Had (IsUnderWay r c.args.limits.now ranks least c.loop-closed.closed) (HasHandedOn r c.args.limits.now ranks least) (λ closings under. under.handed) c.loop-closed.invariant.collected in
    let none : NoneAbove r c.args.limits.now.depart ranks least = rw c.in-Ok-false.field-0-test at c.in-Ok-false.ensures.followed in
    all_handed r c.args.limits.now ranks Has least _ (ap Some c.rank_of-rank.ensures) (c.in-Ok-false.ensures.closed c.args.collector.now way) none

pub returns-in-Err-clause-handed : goal.returns-in-Err-clause-handed
returns-in-Err-clause-handed g c =
    let Has : List (Closing g.row.P-State.Denot) → Type 0 = λ closings. g.C.Collector.collects c.args.collector.now closings c.close_rank.new.collector in
    let Had : List (Closing g.row.P-State.Denot) → Type 0 = λ closings. g.C.Collector.collects c.args.collector.now closings c.loop-closed.collector in
    some_handed (g.P.Space.rules c.args.space.now) c.args.limits.now (g.P.Ranked.ranks c.args.space.now) Had Has
    c.loop-closed.search.current.rank c.loop-closed.closed _ (c.in-Err.ensures.kept c.args.collector.now) c.loop-closed.invariant.collected
