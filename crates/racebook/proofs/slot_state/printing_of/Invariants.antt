use Rattle.std.proofs.Common.{◌≡◌, take}
use Rattle.racebook.specs.Inner.{printing_among}
use Rattle.racebook.proofs.slot_state.printing_of.Given as goal

abbrev pub invariant-loop-place : goal.invariant-loop-place
invariant-loop-place l = l.printing.items ≡ printing_among (take l.place l.slot_states)
