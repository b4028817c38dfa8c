use Rattle.std.proofs.Common.{refl, inl, inr}
use Rattle.racebook.proofs.slot_state.put_slot_state.Goals as goal

pub returns-in_ok-push : goal.returns-in_ok-push
returns-in_ok-push c = inr (c.in-Some.slot_state, c.in_ok-push.ensures.items, c.in-Some.ensures.some)

pub returns-in_default : goal.returns-in_default
returns-in_default c = inl (refl, c.in_default.ensures.none)
