use Rattle.std.proofs.Common.{◌<◌, ◌≤◌, length, arith}
use Rattle.shardbook.specs.Inner.Scans.{IsAmong}
use Rattle.shardbook.proofs.ScanLemmas.{each_more, each_all}
use Rattle.shardbook.proofs.scan.are_among.Goals as goal

pub loop-one-preserved : goal.loop-one-preserved
loop-one-preserved g c =
    let lt : c.loop-one.one-index < length c.args.these.now = omega arith in
    each_more (IsAmong c.args.all.now) c.args.these.now c.loop-one.one-index c.one-item.result c.one-item.is lt (c.is_among.ensures c.if-not-is_among.false) c.loop-one.invariant

pub returns : goal.returns
returns g c = λ _. let end : length c.args.these.now ≤ c.loop-one.one-index = omega arith in each_all (IsAmong c.args.all.now) c.args.these.now c.loop-one.one-index end c.loop-one.invariant
