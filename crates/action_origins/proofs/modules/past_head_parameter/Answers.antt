use Rattle.action_origins.proofs.PastLemmas.{after_two}
use Rattle.action_origins.proofs.modules.past_head_parameter.Goals as goal

pub returns : goal.returns
returns c words = after_two c.args.left c.past_kind.result c.past_setting.result _ _ (c.past_kind.ensures words) (c.past_setting.ensures words)
