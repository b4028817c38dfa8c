use Rattle.action_origins.proofs.PastLemmas.{joined_past, targets_past}
use Rattle.action_origins.proofs.parts.+targets.Goals as goal

pub past_target-returns-in-Joined : goal.past_target-returns-in-Joined
past_target-returns-in-Joined t c words =
    joined_past words c.args.left c.past_targets.result c.args.target.now c.in-Joined.at c.in-Joined.targets c.deref-in-Joined.result.now
    c.saturating_sub-in-Joined.result c.in-Joined.is c.deref-in-Joined.ensures.value c.saturating_sub-in-Joined.ensures (c.past_targets.ensures words)

pub past_targets-returns : goal.past_targets-returns
past_targets-returns t c words =
    targets_past words c.args.left c.past_each_target.result c.args.targets.now c.is_empty.result c.past_end.result _ c.is_empty.ensures c.past_end.ensures (c.past_each_target.ensures words)
