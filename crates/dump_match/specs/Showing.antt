-- *internal*: What a reference shows, and what reading it shows.
use Rattle.std.specs.Prelude.{◌≡◌, ℕ, Bool, true, false, ◌||◌, length, get_or, List, [], Option, None, Some, refl}
use Rattle.std.proofs.Common.{ap}
use Rattle.vbits.specs.Vectors.{Vector}
use Rattle.vmodel.specs.Run.{Setting}
use Rattle.vflat.specs.Representations.{representation_same, representations_tell}
use Rattle.vmachine.specs.declared.machine_state.MachineState.{MachineState}
use Rattle.matching.specs.Explained.{Piece}
use Rattle.vcd_slots.specs.declared.slots.DumpSlots.{DumpSlots}
use Rattle.dump_match.specs.Comparison.{differ_from}
use Rattle.dump_match.specs.Pieces.{Shows, piece_at, piece_of}
use Rattle.dump_match.specs.Known.{AreMarked, has_had_value}
use Rattle.dump_match.specs.declared.comparison.Pair.{Pair}
use Rattle.dump_match.specs.declared.dump.DumpReference.{DumpReference}

abbrev pub piece_in : {R : Type 0} → DumpReference R → Piece MachineState
piece_in me = piece_of me.machine.now me.comparison.pairs.items me.slots

-- going on shows these pieces, of the same machine and pairs, and marks which of the pairs have had a value
pub record ReadsTo {R : Type 0} (remaining : R → Option (List ℕ)) (first : DumpReference R) (pieces : List (Piece MachineState)) (setting : Setting) (pairs : List Pair)
    (slots : DumpSlots R) (known : List Bool) : Type 0 where
  pub machine : setting ≡ first.machine.now
  pub same : pairs ≡ first.comparison.pairs.items
  pub shows : Shows remaining first.machine.now first.comparison.pairs.items first.slots pieces slots
  pub len : length known ≡ length first.known.items
  pub marked : AreMarked first.known.items known (has_had_value first.comparison.pairs.items shows)

abbrev pub Reads : {R : Type 0} → (R → Option (List ℕ)) → DumpReference R → List (Piece MachineState) → DumpReference R → Type 0
Reads remaining first pieces now = ReadsTo remaining first pieces now.machine.now now.comparison.pairs.items now.slots now.known.items

or_false : (b : Bool) → b ≡ (b || false)
or_false true = refl
or_false false = refl

pub nothing_read : {R : Type 0} {remaining : R → Option (List ℕ)} (me : DumpReference R) → Reads remaining me [] me
nothing_read me = record {
  machine = refl;
  same = refl;
  shows = Shows.none;
  len = refl;
  marked = λ number lt. or_false (get_or me.known.items number false);
}

-- ---- equal states differ alike

alike_at : (setting : Setting) (time : Option ℕ) (told : List (Option Vector)) (pairs : List Pair) (s t : MachineState) → representation_same s t ≡ true →
    (piece_at setting time told pairs).differ s ≡ (piece_at setting time told pairs).differ t
alike_at setting None told pairs s t h = refl
alike_at setting (Some time) told pairs s t h = ap (differ_from setting time told pairs) ((representations_tell s t).0 h)

pub alike_in : {R : Type 0} (me : DumpReference R) (s t : MachineState) → representation_same s t ≡ true → (piece_in me).differ s ≡ (piece_in me).differ t
alike_in me = alike_at me.machine.now me.slots.time me.slots.columns.told.items me.comparison.pairs.items
