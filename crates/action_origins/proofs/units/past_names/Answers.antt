use Rattle.action_origins.proofs.PastLemmas.{names_past}
use Rattle.action_origins.proofs.units.past_names.Goals as goal

pub returns : goal.returns
returns c words =
    names_past words c.args.left c.saturating_sub-2.result c.args.names.now c.is_empty.result c.past_end.result c.saturating_sub.result
    c.is_empty.ensures c.past_end.ensures c.saturating_sub.ensures c.saturating_sub-2.ensures
