use Rattle.std.proofs.Common.{◌+◌, drop, sym}
use Rattle.vmodules.proofs.ListLemmas.{drop_at}
use Rattle.vmodules.proofs.FlawLemmas.{later_listed}
use Rattle.vmodules.proofs.misdeclared.first_listed.Goals as goal

pub loop-port-preserved : goal.loop-port-preserved
loop-port-preserved c words =
    later_listed words (drop c.loop-port.port-index c.args.list.now) (drop (c.loop-port.port-index + 1) c.args.list.now) c.port-item.result c.loop-port.direction c.direction_of-direction.result
    c.valued_net-found.result _ (drop_at c.args.list.now c.loop-port.port-index c.port-item.result c.loop-port-test.true c.port-item.is)
    (c.direction_of-direction.ensures words) (c.valued_net-found.ensures words) (sym c.if-is_some.ensures) (c.loop-port.invariant words)
