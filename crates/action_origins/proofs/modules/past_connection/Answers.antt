use Rattle.action_origins.proofs.PastLemmas.{after_two}
use Rattle.action_origins.proofs.modules.past_connection.Goals as goal

pub returns : goal.returns
returns c words = after_two c.args.left c.saturating_sub.result c.past_optional.result 4 _ c.saturating_sub.ensures (c.past_optional.ensures words)
