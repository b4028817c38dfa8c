use Rattle.sched_core.proofs.RunLemmas.{default_at_none, default_at_later}
use Rattle.sched_core.proofs.run.next_choice.Goals as goal
use Rattle.sched_core.proofs.run.next_choice.Goals.{in_default-via-in-Some+else-member-n, in_default-via-in_default}

pub returns-in_default-clause-next : goal.returns-in_default-clause-next
returns-in_default-clause-next c = elim c.in_default.branch [
  | in_default-via-in-Some+else-member-n w ↦
      default_at_later c.args.n c.args.members.now _ _ w.in-Some.ensures.cases.0 w.if-member-n.false c.requires
  | in_default-via-in_default w ↦ default_at_none c.args.n c.args.members.now w.in_default.ensures.cases
]
