use Rattle.std.proofs.Common.{ℕ, List, Option, IfNone, inr, arith, subst}
use Rattle.matching.specs.Inner.Slots.{IsBeyond}
use Rattle.matching.proofs.Cuts.{end_is_long, too_high}
use Rattle.matching.proofs.slot.end_of.Goals as goal

pub returns-in_default-clause-reason : goal.returns-in_default-clause-reason
returns-in_default-clause-reason g c =
    let start = c.args.start.now in
    let N : Option (List (ℕ × ℕ)) → Type 0 = λ o. IfNone o (IsBeyond start.log start.steps c.args.log.now) in
    let beyond : IsBeyond start.log start.steps c.args.log.now = subst N c.in_default.is c.in_ok-log.ensures.none in
    inr (end_is_long (g.P.Space.rules c.args.space.now) (g.met.P.Space.lawful c.args.space.now) start c.args.state c.args.log.now
    c.in_ok-count.count c.requires.start c.in_ok-count.ensures
    (omega (arith, beyond c.in_ok-count.count c.requires.start.names c.in_ok-count.ensures.names)))

pub returns-in-None-clause-reason : goal.returns-in-None-clause-reason
returns-in-None-clause-reason g c =
    inr (end_is_long (g.P.Space.rules c.args.space.now) (g.met.P.Space.lawful c.args.space.now) c.args.start.now c.args.state
    c.args.log.now c.in_ok-count.count c.requires.start c.in_ok-count.ensures
    (too_high c.args.start.now.steps c.in_ok-count.count c.in-None.ensures))
