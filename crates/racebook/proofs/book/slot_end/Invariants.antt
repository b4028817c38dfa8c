use Rattle.std.proofs.Common.{◌≡◌, ℕ, ◌-◌, ◌<◌, ◌≤◌, length, slice_get, Some}
use Rattle.racebook.specs.declared.slot_state.SlotState.{SlotState}
use Rattle.racebook.proofs.book.slot_end.Given as goal

abbrev pub invariant-same : goal.invariant-same
invariant-same l = record {
  more : l.start < l.end;
  within : l.end ≤ length l.slot_states;
  same : (k : ℕ) (g : SlotState) → l.start ≤ k → k < l.end → slice_get l.slot_states k ≡ Some g → g.time ≡ l.time;
}

abbrev pub decreases-same : goal.decreases-same
decreases-same l = length l.slot_states - l.end
