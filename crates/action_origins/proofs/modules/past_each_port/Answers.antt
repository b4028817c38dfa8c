use Rattle.std.proofs.Common.{List, map, refl}
use Rattle.vast.specs.NumberedTrees.{port_tree}
use Rattle.vast.specs.declared.module.Port.{Port}
use Rattle.action_origins.specs.Lengths.{length_of_each, port_length}
use Rattle.action_origins.proofs.PastLemmas.{one_passed}
use Rattle.action_origins.proofs.modules.past_each_port.Goals as goal

pub loop-one-preserved : goal.loop-one-preserved
loop-one-preserved c words =
    one_passed c.args.ports.now c.loop-one.one-index c.one-item.result c.loop-one-test.true c.one-item.is
    (λ (l : List Port). length_of_each port_length (map (port_tree words) l)) (λ (p : Port). port_length (port_tree words p)) (λ y ys. refl)
    c.loop-one.left c.past_port.result c.saturating_sub-left.result _ (c.past_port.ensures words) c.saturating_sub-left.ensures (c.loop-one.invariant words)
