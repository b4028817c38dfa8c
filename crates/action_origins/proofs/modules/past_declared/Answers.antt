use Rattle.action_origins.proofs.PastLemmas.{after_two}
use Rattle.action_origins.proofs.modules.past_declared.Goals as goal

pub returns : goal.returns
returns c words = after_two c.args.left c.saturating_sub.result c.past_value.result 1 _ c.saturating_sub.ensures (c.past_value.ensures words)
