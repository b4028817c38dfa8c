use Rattle.std.proofs.Common.{◌≡◌, ◌+◌, arith, true}
use Rattle.statebook.proofs.NextLemmas.{allowed_width, follows_from, entry_from, stepped}
use Rattle.statebook.proofs.WayLemmas.{past_same}
use Rattle.statebook.proofs.next.next_entry.Given.{Over}
use Rattle.statebook.proofs.next.next_entry.Goals as goal
use Rattle.statebook.proofs.next.next_entry.Goals.{In_ok-steps}

pub returns-then-entry-limits-clause-past : goal.returns-then-entry-limits-clause-past
returns-then-entry-limits-clause-past g c = λ j le. absurd (let full = c.if-entry-limits.true in omega (arith, le, full))

-- the state stands where the choice leads
taken : (g : Over) (c : In_ok-steps g) → (g.P.Space.rules c.args.space.now).same c.step.new.s ((g.P.Space.rules c.args.space.now).after c.args.entry.now.state c.args.choice) ≡ true
taken g c =
    stepped (g.P.Space.rules c.args.space.now) (g.met.P.Space.lawful c.args.space.now) c.in_ok-state.state c.args.entry.now.state c.step.new.s c.args.choice c.in_ok-state.ensures
    (allowed_width _ _ _ c.requires.choice) c.in_ok-step.ensures.ok

pub returns-in-None-clause-past : goal.returns-in-None-clause-past
returns-in-None-clause-past g c =
    let r = g.P.Space.rules c.args.space.now in
    let law = g.met.P.Space.lawful c.args.space.now in
    past_same r law (r.after c.args.entry.now.state c.args.choice) c.step.new.s (c.args.entry.now.steps + 1) c.args.limits.now.steps
    (taken g (goal.at.returns-in-None-clause-past g c).In_ok-steps)
    (rw c.in-None.is at c.in_ok-steps.ensures.past)

pub returns-in-Some-clause-follows : goal.returns-in-Some-clause-follows
returns-in-Some-clause-follows g c =
    follows_from (g.P.Space.rules c.args.space.now) (g.met.P.Space.lawful c.args.space.now) c.args.entry.now _ c.args.choice (c.args.entry.now.steps + 1) c.in-Some.steps c.step.new.s
    (taken g (goal.at.returns-in-Some-clause-follows g c).In_ok-steps)
    (rw c.in-Some.is at c.in_ok-steps.ensures.there)
    c.budget_left.ensures

pub returns-in-Some-clause-allowed : goal.returns-in-Some-clause-allowed
returns-in-Some-clause-allowed g c =
    entry_from (g.P.Space.rules c.args.space.now) (g.met.P.Space.lawful c.args.space.now) c.args.limits.now.depart c.args.limits.now.steps c.args.entry.now _ c.args.choice c.step.new.s c.requires.entry c.requires.choice
    (let w = c.requires.entry.within in let n = c.if-entry-limits.false in omega arith)
    (omega arith)
    c.in_ok-log.ensures
    (taken g (goal.at.returns-in-Some-clause-allowed g c).In_ok-steps)
    (rw c.in-Some.is at c.in_ok-steps.ensures.there)
    (rw c.in-Some.is at c.in_ok-steps.ensures.limit)
    c.budget_left.ensures
