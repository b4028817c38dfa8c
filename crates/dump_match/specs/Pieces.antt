-- *product rule*: What a dump shows, time after time.
use Rattle.std.specs.Prelude.{ℕ, List, [], ◌∷◌, ◌++◌, Option, Some, None}
use Rattle.vbits.specs.Vectors.{Vector}
use Rattle.vmodel.specs.Run.{Setting}
use Rattle.vmachine.specs.declared.machine_state.MachineState.{MachineState}
use Rattle.matching.specs.Explained.{Piece}
use Rattle.vcd_read.specs.Commands.{Item}
use Rattle.vcd_slots.specs.Standing.{Advances}
use Rattle.vcd_slots.specs.declared.slots.DumpSlots.{DumpSlots}
use Rattle.dump_match.specs.Comparison.{differ_from}
use Rattle.dump_match.specs.declared.comparison.Pair.{Pair}

-- before the first time nothing is compared; from each time on what the dump shows of the columns then
abbrev pub piece_at : Setting → Option ℕ → List (Option Vector) → List Pair → Piece MachineState
piece_at setting None told pairs = record { from = 0; differ = λ s. 0 }
piece_at setting (Some time) told pairs = record { from = time; differ = differ_from setting time told pairs }

abbrev pub piece_of : {R : Type 0} → Setting → List Pair → DumpSlots R → Piece MachineState
piece_of setting pairs slots = piece_at setting slots.time slots.columns.told.items pairs

-- Going on from slot to slot of the dump shows these pieces.
pub data Shows {R : Type 0} (remaining : R → Option (List ℕ)) (setting : Setting) (pairs : List Pair) (first : DumpSlots R) : List (Piece MachineState) → DumpSlots R → Type 0 where
  none : Shows remaining setting pairs first [] first
  more : (pieces : List (Piece MachineState)) (old new : DumpSlots R) (items : List Item) → Shows remaining setting pairs first pieces old →
      Advances remaining old new items → Shows remaining setting pairs first (pieces ++ piece_of setting pairs new ∷ []) new

-- what is shown at first is the dump before its first time, or at it
pub data OpensFrom {R : Type 0} (remaining : R → Option (List ℕ)) (begun : DumpSlots R) : DumpSlots R → Type 0 where
  before : OpensFrom remaining begun begun
  at : (now : DumpSlots R) (items : List Item) → Advances remaining begun now items → OpensFrom remaining begun now
