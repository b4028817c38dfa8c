use Rattle.std.proofs.Common.{refl, inl, inr}
use Rattle.racebook.proofs.EndLemmas.{goes_on, has_ended}
use Rattle.racebook.proofs.slots.put_end.Goals as goal

pub returns-in-None : goal.returns-in-None
returns-in-None c = inl (refl, goes_on c.args.machine.now c.args.found.state c.end_of.result c.end_of.ensures c.in-None.is)

pub returns-in_ok-push-in-Some : goal.returns-in_ok-push-in-Some
returns-in_ok-push-in-Some c = inr (c.in_ok-push-in-Some.ensures.items, has_ended c.args.machine.now c.args.found.state c.end_of.result _ c.end_of.ensures c.in-Some.is)
