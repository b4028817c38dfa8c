use Rattle.std.proofs.Common.{List, map, refl}
use Rattle.vast.specs.NumberedTrees.{port_tree}
use Rattle.vast.specs.declared.module.Port.{Port}
use Rattle.module_size.specs.Sizes.{port_size, size_of}
use Rattle.module_size.proofs.SizeLemmas.{taken}
use Rattle.module_size.proofs.modules.take_ports.Goals as goal

pub loop-one-preserved : goal.loop-one-preserved
loop-one-preserved c words =
    taken c.args.ports.now c.loop-one.one-index c.one-item.result c.loop-one-test.true c.one-item.is
    (λ (l : List Port). size_of port_size (map (port_tree words) l)) (λ (p : Port). port_size (port_tree words p)) (λ y ys. refl)
    c.loop-one.left c.take_port-left.result _ (c.take_port-left.ensures words) (c.loop-one.invariant words)
