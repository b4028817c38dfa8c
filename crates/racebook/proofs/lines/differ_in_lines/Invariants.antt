use Rattle.std.proofs.Common.{◌≡◌, ℕ, ◌<◌, slice_get, Some}
use Rattle.racebook.specs.declared.slot_state.SlotState.{SlotState}
use Rattle.racebook.specs.Inner.{lines_in}
use Rattle.racebook.proofs.lines.differ_in_lines.Given as goal

abbrev pub invariant-loop-slot_state : goal.invariant-loop-slot_state
invariant-loop-slot_state l = (k : ℕ) (g : SlotState) → k < l.slot_state-index → slice_get l.slot k ≡ Some g → lines_in g ≡ l.first
