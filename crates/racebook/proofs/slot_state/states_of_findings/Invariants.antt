use Rattle.racebook.specs.Inner.{AreSlotStatesBelow}
use Rattle.racebook.proofs.slot_state.states_of_findings.Given as goal

abbrev pub invariant-loop-place : goal.invariant-loop-place
invariant-loop-place l = AreSlotStatesBelow l.machine l.findings.marks.entries l.place l.slot_states.items
