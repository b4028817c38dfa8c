-- To read on shows a piece more.
use Rattle.std.proofs.Common.{◌≡◌, ℕ, ◌<◌, Bool, true, false, ◌||◌, List, [], ◌∷◌, ◌++◌, length, get_or, Option, refl, sym, ap, subst, ◌∙◌}
use Rattle.vmodel.specs.Run.{Setting}
use Rattle.vmachine.specs.declared.machine_state.MachineState.{MachineState}
use Rattle.matching.specs.Explained.{Piece}
use Rattle.vcd_read.specs.Commands.{Item}
use Rattle.vcd_slots.specs.Standing.{Advances}
use Rattle.vcd_slots.specs.declared.slots.DumpSlots.{DumpSlots}
use Rattle.dump_match.specs.Pieces.{Shows, piece_of}
use Rattle.dump_match.specs.Known.{AreMarked, has_had_value, has_value_in}
use Rattle.dump_match.specs.Showing.{ReadsTo}
use Rattle.dump_match.specs.declared.comparison.Pair.{Pair}
use Rattle.dump_match.specs.declared.dump.DumpReference.{DumpReference}

or_or : (a b c : Bool) → ((a || b) || c) ≡ (a || (b || c))
or_or true b c = refl
or_or false b c = refl

marked_more : (first old new : List Bool) (had has : ℕ → Bool) → length old ≡ length first → AreMarked first old had → AreMarked old new has →
    AreMarked first new (λ number. had number || has number)
marked_more first old new had has same one two number lt =
    two number (subst (λ (n : ℕ). number < n) (sym same) lt) ∙ ap (λ (b : Bool). b || has number) (one number lt)
    ∙ or_or (get_or first number false) (had number) (has number)

advanced_by : {R : Type 0} (remaining : R → Option (List ℕ)) (first : DumpReference R) (pieces : List (Piece MachineState)) (old new : DumpSlots R)
    (items : List Item) (known marked : List Bool) →
    ReadsTo remaining first pieces first.machine.now first.comparison.pairs.items old known → Advances remaining old new items →
    length marked ≡ length known → AreMarked known marked (has_value_in first.comparison.pairs.items new) →
    ReadsTo remaining first (pieces ++ piece_of first.machine.now first.comparison.pairs.items new ∷ []) first.machine.now first.comparison.pairs.items new marked
advanced_by remaining first pieces old new items known marked reads advances same marks = record {
  machine = refl;
  same = refl;
  shows = Shows.more pieces old new items reads.shows advances;
  len = same ∙ reads.len;
  marked = marked_more first.known.items known marked (has_had_value first.comparison.pairs.items reads.shows) (has_value_in first.comparison.pairs.items new)
      reads.len reads.marked marks;
}

pub advanced : {R : Type 0} (remaining : R → Option (List ℕ)) (setting : Setting) (pairs : List Pair) (old new : DumpSlots R) (items : List Item)
    (known marked : List Bool) → Advances remaining old new items → length marked ≡ length known → AreMarked known marked (has_value_in pairs new) →
    (first : DumpReference R) (pieces : List (Piece MachineState)) → ReadsTo remaining first pieces setting pairs old known →
    ReadsTo remaining first (pieces ++ piece_of setting pairs new ∷ []) setting pairs new marked
advanced remaining setting pairs old new items known marked advances same marks first pieces reads =
    subst (λ (s : Setting). ReadsTo remaining first (pieces ++ piece_of s pairs new ∷ []) s pairs new marked) (sym reads.machine)
    (subst (λ (ps : List Pair). ReadsTo remaining first (pieces ++ piece_of first.machine.now ps new ∷ []) first.machine.now ps new marked) (sym reads.same)
    (advanced_by remaining first pieces old new items known marked
    (subst (λ (s : Setting). ReadsTo remaining first pieces s first.comparison.pairs.items old known) reads.machine
    (subst (λ (ps : List Pair). ReadsTo remaining first pieces setting ps old known) reads.same reads)) advances same
    (subst (λ (ps : List Pair). AreMarked known marked (has_value_in ps new)) reads.same marks)))
