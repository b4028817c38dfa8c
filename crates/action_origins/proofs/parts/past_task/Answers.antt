use Rattle.action_origins.proofs.PastLemmas.{print_past, idle_past}
use Rattle.action_origins.proofs.parts.past_task.Goals as goal

pub returns-in-Print : goal.returns-in-Print
returns-in-Print c words =
    print_past words c.args.left c.past_arguments.result c.args.task.now c.in-Print.kind c.in-Print.arguments c.deref.result.now
    c.saturating_sub.result c.in-Print.is c.deref.ensures.value c.saturating_sub.ensures (c.past_arguments.ensures words)

pub returns-in-Idle : goal.returns-in-Idle
returns-in-Idle c words =
    idle_past words c.args.left c.past_arguments-in-Idle.result c.args.task.now c.in-Idle.kind c.in-Idle.arguments c.deref-in-Idle.result.now
    c.saturating_sub-in-Idle.result c.in-Idle.is c.deref-in-Idle.ensures.value c.saturating_sub-in-Idle.ensures (c.past_arguments-in-Idle.ensures words)
