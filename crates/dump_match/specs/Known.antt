-- *product rule*: Which of the pairs were compared at all: what was shown had a value of their column.
use Rattle.std.specs.Prelude.{◌≡◌, ℕ, ◌<◌, Bool, false, ◌||◌, length, List, Option, Some, None, slice_get, get_or, is_some}
use Rattle.vbits.specs.Vectors.{Vector}
use Rattle.vmodel.specs.Run.{Setting}
use Rattle.vmachine.specs.declared.machine_state.MachineState.{MachineState}
use Rattle.matching.specs.Explained.{Piece}
use Rattle.vcd_slots.specs.declared.slots.DumpSlots.{DumpSlots}
use Rattle.dump_match.specs.Pieces.{Shows, none, more}
use Rattle.dump_match.specs.declared.comparison.Pair.{Pair}

abbrev pub has_column : List (Option Vector) → Option Pair → Bool
has_column told None = false
has_column told (Some pair) = is_some (get_or told pair.column None)

-- the pair of this number has a value in what is shown; before the first time nothing is compared
abbrev pub has_value : Option ℕ → List (Option Vector) → List Pair → ℕ → Bool
has_value None told pairs number = false
has_value (Some time) told pairs number = has_column told (slice_get pairs number)

abbrev pub has_value_in : {R : Type 0} → List Pair → DumpSlots R → ℕ → Bool
has_value_in pairs slots = has_value slots.time slots.columns.told.items pairs

-- and in what is shown as one goes on
abbrev pub has_had_value : {R : Type 0} {remaining : R → Option (List ℕ)} {setting : Setting} (pairs : List Pair) {first : DumpSlots R}
    {pieces : List (Piece MachineState)} {now : DumpSlots R} → Shows remaining setting pairs first pieces now → ℕ → Bool
has_had_value pairs none number = false
has_had_value pairs (more pieces old new items shows advances) number = has_had_value pairs shows number || has_value_in pairs new number

-- marks of the pairs that had a value before, and of those that have one now
abbrev pub AreMarked : List Bool → List Bool → (ℕ → Bool) → Type 0
AreMarked before now has = (number : ℕ) → number < length before → get_or now number false ≡ (get_or before number false || has number)
