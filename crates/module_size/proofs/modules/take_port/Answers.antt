use Rattle.module_size.proofs.SizeLemmas.{in_turn}
use Rattle.module_size.proofs.modules.take_port.Goals as goal

pub returns : goal.returns
returns c words =
    in_turn c.args.left c.saturating_sub.result c.take_port_direction-left.result c.take_port_value.result 1 _ _
    c.saturating_sub.ensures (c.take_port_direction-left.ensures words) (c.take_port_value.ensures words)
