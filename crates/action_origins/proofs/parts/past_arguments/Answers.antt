use Rattle.action_origins.proofs.PastLemmas.{arguments_past}
use Rattle.action_origins.proofs.parts.past_arguments.Goals as goal

pub returns : goal.returns
returns c words =
    arguments_past words c.args.left c.past_each_argument.result c.args.arguments.now c.is_empty.result c.saturating_sub.result
    c.is_empty.ensures c.if-is_empty.false c.saturating_sub.ensures (c.past_each_argument.ensures words)
