use Rattle.action_origins.proofs.PastLemmas.{after_four}
use Rattle.action_origins.proofs.parts.past_assignment.Goals as goal

pub returns : goal.returns
returns c words =
    after_four c.args.left c.saturating_sub.result c.past_target-left.result c.past_amount.result c.past_expression.result 2 _ _ _
    c.saturating_sub.ensures (c.past_target-left.ensures words) (c.past_amount.ensures words) (c.past_expression.ensures words)
