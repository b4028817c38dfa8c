use Rattle.std.proofs.Common.{ℕ, List, sym, subst, add-one, take}
use Rattle.std.proofs.lemmas.Option.{slice_get-get_or}
use Rattle.sched_core.specs.Rules.{NamesBelow}
use Rattle.sched_core.proofs.RunLemmas.{IsLeft}
use Rattle.cause.proofs.RestLemmas.{left_there, from_there, one_below}
use Rattle.cause.proofs.slot.left_at.Goals as goal

pub returns-then-step-members : goal.returns-then-step-members
returns-then-step-members c =
    let members = c.args.members.now in
    let place : ℕ = c.loop-place.place in
    let there = slice_get-get_or members place (0, 0) c.loop-place-test.true in
    subst (λ (rest : List (ℕ × ℕ)). IsLeft members rest c.args.step) (sym c.split_at.ensures.back)
    (left_there place c.args.step members c.loop-place.invariant
    (from_there 0 c.args.step place members _ c.requires there c.if-step-members.true))

pub loop-place-preserved : goal.loop-place-preserved
loop-place-preserved c =
    subst (λ (n : ℕ). NamesBelow (take n c.args.members.now) c.args.step) (sym (add-one c.loop-place.place))
    (one_below c.loop-place.place c.args.step c.args.members.now _ (slice_get-get_or c.args.members.now c.loop-place.place (0, 0) c.loop-place-test.true)
    c.if-step-members.false c.loop-place.invariant)
