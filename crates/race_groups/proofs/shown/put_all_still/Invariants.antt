use Rattle.race_groups.specs.Standing.{AddsStillBelow}
use Rattle.race_groups.proofs.shown.put_all_still.Given as goal

abbrev pub invariant-loop-place : goal.invariant-loop-place
invariant-loop-place l = AddsStillBelow l.machine l.time l.standing l.place l.fn.slot_states.items l.slot_states.items
