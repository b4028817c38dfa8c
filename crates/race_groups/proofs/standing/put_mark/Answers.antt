use Rattle.std.proofs.Common.{inl, inr, refl, subst}
use Rattle.race_groups.specs.Standing.{IsNextOf}
use Rattle.race_groups.proofs.StandingLemmas.{ended_there, goes_on_there}
use Rattle.race_groups.proofs.standing.put_mark.Goals as goal

pub returns-in_ok-push-in-None-clause-ends : goal.returns-in_ok-push-in-None-clause-ends
returns-in_ok-push-in-None-clause-ends c = inr (
  c.in_ok-push-in-None.ensures.items,
  ended_there c.args.machine.now (c.machine_law.ensures.width c.args.machine.now) c.args.found.state
      (subst (IsNextOf c.args.machine.now c.args.found.state) c.in-None.is c.in_ok-next_time.ensures),
)

pub returns-in_ok-push-in-Some-clause-ends : goal.returns-in_ok-push-in-Some-clause-ends
returns-in_ok-push-in-Some-clause-ends c = inl (
  refl,
  goes_on_there c.args.machine.now (c.machine_law.ensures.width c.args.machine.now) c.args.found.state
      (subst (IsNextOf c.args.machine.now c.args.found.state) c.in-Some.is c.in_ok-next_time.ensures).goes_on,
)
