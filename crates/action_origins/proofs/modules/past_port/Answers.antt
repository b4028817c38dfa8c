use Rattle.action_origins.proofs.PastLemmas.{after_two}
use Rattle.action_origins.proofs.modules.past_port.Goals as goal

pub returns : goal.returns
returns c words =
    let named = after_two c.past_port_direction-left.result c.saturating_sub.result c.past_value.result 1 _ c.saturating_sub.ensures (c.past_value.ensures words) in
    after_two c.args.left c.past_port_direction-left.result c.past_value.result _ _ (c.past_port_direction-left.ensures words) named
