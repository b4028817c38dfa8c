use Rattle.explore.specs.Ranked.{pairs_of}
use Rattle.racebook.specs.Inner.{AreSlotStatesBelow}
use Rattle.racebook.proofs.slot_state.states_of_marks.Given as goal

abbrev pub invariant-loop-place : goal.invariant-loop-place
invariant-loop-place l = AreSlotStatesBelow l.machine (pairs_of l.marks) l.place l.slot_states.items
