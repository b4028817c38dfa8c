use Rattle.module_size.proofs.SizeLemmas.{in_turn}
use Rattle.module_size.proofs.modules.take_instance.Goals as goal

pub returns : goal.returns
returns c words =
    in_turn c.args.left c.saturating_sub.result c.take_overrides-left.result c.take_connections.result 1 _ _
    c.saturating_sub.ensures (c.take_overrides-left.ensures words) (c.take_connections.ensures words)
