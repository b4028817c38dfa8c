-- *internal*: A dump is read back.
use Rattle.std.specs.Prelude.{◌≡◌, ℕ, suc, ◌<◌, ◌^◌, length, Bool, true, false, if◌then◌else◌, List, [], ◌∷◌, ◌++◌, Some, None}
use Rattle.vdesign.specs.Design.{Variable, Design}
use Rattle.vmodel.specs.History.{History}
use Rattle.vcd_read.specs.Words.{Text, words_of}
use Rattle.vcd_read.specs.Declarations.{Declares}
use Rattle.vcd_read.specs.Declarations as declarations
use Rattle.vcd_read.specs.Commands.{Item, Tells}
use Rattle.vcd_slots.specs.Slots.{DoNotFall}
use Rattle.vcd_text.specs.DumpText.{DumpSlot, dump_slots, slots_after, variable_marks, vcd}
use Rattle.vcd_law.specs.Headers.{AreNested, variable_seen}
use Rattle.vcd_law.specs.ReadBack.{HaveValues, RiseTo, ShowSlots}

-- the variables that are marked, the first of which has number n
abbrev pub seen_marked : ℕ → List Bool → List Variable → List declarations.Variable
seen_marked n marks [] = []
seen_marked n [] (v ∷ vs) = []
seen_marked n (mark ∷ marks) (v ∷ vs) = if mark then variable_seen n v ∷ seen_marked (suc n) marks vs else seen_marked (suc n) marks vs

-- What the dump of a design and a history says, in slots of which the first starts it: its words declare the precision as the unit of times,
-- and the variables that are selected, and tell items that show each slot's values.
abbrev pub IsReadBack : Design → History → DumpSlot → List DumpSlot → Type 0
IsReadBack design history first later =
    (words rest : List Text) × (items : List Item) × (words_of (vcd design history) ≡ words ++ rest)
    × Declares None [] [] words (Some design.scale.precision) (seen_marked 0 (variable_marks design first.commands) design.variables)
    × Tells false rest items
    × DoNotFall None items × ShowSlots (variable_marks design first.commands) items true (first ∷ later)

abbrev pub dump_read : Type 0
dump_read = (design : Design) (history : History) (first : DumpSlot) (later : List DumpSlot) →
    dump_slots (slots_after [] history.items) ≡ first ∷ later → AreNested [] design.scopes design.variables →
    RiseTo first.time later history.end.time → history.end.time < 2 ^ 64 → HaveValues (length first.values) (first ∷ later) →
    IsReadBack design history first later
