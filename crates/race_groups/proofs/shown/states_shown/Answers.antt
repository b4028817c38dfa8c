use Rattle.std.proofs.Common.{inl, inr}
use Rattle.race_groups.proofs.shown.states_shown.Goals as goal

pub returns-clause-wide : goal.returns-clause-wide
returns-clause-wide c = λ g has. elim (c.in_ok-put_all_still.ensures.each g has) [
  | inl own ↦ c.in_ok-slot_states.ensures.wide g own
  | inr still ↦ still.still.wide
]
