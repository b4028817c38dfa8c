use Rattle.workpool.proofs.WorkLemmas.{met_by}
use Rattle.workpool.proofs.job.insert_choice.Goals as goal

pub returns-in_ok-insert-in-Some-clause-met : goal.returns-in_ok-insert-in-Some-clause-met
returns-in_ok-insert-in-Some-clause-met g c =
    met_by (g.P.Space.rules c.args.space.now) (g.met.P.Space.lawful c.args.space.now) g.P.State.PartialEq.eq (g.met.P.Space.same_is_eq c.args.space.now) c.args.entry.now c.in-Some.next c.in_ok-insert-in-Some.field-0.entry c.args.choice
    (rw c.in-Some.is at c.in_ok-next.ensures.follows) c.in_ok-insert-in-Some.ensures.found
