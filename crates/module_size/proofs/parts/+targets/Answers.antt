use Rattle.module_size.proofs.SizeLemmas.{joined_left}
use Rattle.module_size.proofs.parts.+targets.Goals as goal

pub take_target-returns-in-Joined : goal.take_target-returns-in-Joined
take_target-returns-in-Joined t c words =
    joined_left words c.args.left c.take_targets.result c.args.target.now c.in-Joined.at c.in-Joined.targets c.deref-in-Joined.result.now c.saturating_sub-left.result
    c.in-Joined.is c.deref-in-Joined.ensures.value c.saturating_sub-left.ensures (c.take_targets.ensures words)
