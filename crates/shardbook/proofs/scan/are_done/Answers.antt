use Rattle.std.proofs.Common.{◌<◌, ◌≤◌, length, arith}
use Rattle.shardbook.specs.Inner.Scans.{IsDone}
use Rattle.shardbook.proofs.ScanLemmas.{each_more, each_all}
use Rattle.shardbook.proofs.scan.are_done.Goals as goal

pub loop-one-preserved : goal.loop-one-preserved
loop-one-preserved g c =
    let lt : c.loop-one.one-index < length c.args.all.now = omega arith in
    each_more (IsDone g.Q.SearchParameters.rules g.Q.SearchParameters.depart g.Q.SearchParameters.steps c.args.all.now) c.args.all.now c.loop-one.one-index c.one-item.result c.one-item.is lt (c.is_done.ensures c.if-not-is_done.false) c.loop-one.invariant

pub returns : goal.returns
returns g c = λ _. let end : length c.args.all.now ≤ c.loop-one.one-index = omega arith in each_all (IsDone g.Q.SearchParameters.rules g.Q.SearchParameters.depart g.Q.SearchParameters.steps c.args.all.now) c.args.all.now c.loop-one.one-index end c.loop-one.invariant
