-- *internal*: What is written of a history is read back.
use Rattle.std.specs.Prelude.{◌≡◌, ℕ, ◌<◌, ◌≤◌, ◌^◌, length, Bool, true, false, if◌then◌else◌, List, [], ◌∷◌, Option, Some, None, slice_get, ⊤}
use Rattle.vbits.specs.Vectors.{Vector}
use Rattle.vcd_read.specs.Words.{words_of}
use Rattle.vcd_read.specs.Commands.{Item, Tells}
use Rattle.vcd_slots.specs.Slots.{DoNotFall, shown_at}
use Rattle.vcd_text.specs.DumpText.{DumpSlot, body, code, nonempty_pieces, on_after, pieces}

-- the times of slots rise behind this one, up to the end
abbrev pub RiseTo : ℕ → List DumpSlot → ℕ → Type 0
RiseTo time [] end = time ≤ end
RiseTo time (slot ∷ slots) end = (time < slot.time) × RiseTo slot.time slots end

-- values have a letter
abbrev pub HaveLetters : List Vector → Type 0
HaveLetters [] = ⊤
HaveLetters (v ∷ vs) = (0 < length v.letters) × HaveLetters vs

-- slots have values of so many variables
abbrev pub HaveValues : ℕ → List DumpSlot → Type 0
HaveValues count [] = ⊤
HaveValues count (slot ∷ slots) = (length slot.values ≡ count) × HaveLetters slot.values × HaveValues count slots

-- a value without its sign, which no dump tells (18.2.2)
abbrev pub unsigned : Vector → Vector
unsigned v = record { letters = v.letters; signed = false }

abbrev pub value_if : Bool → Vector → Option Vector
value_if on v = if on then Some (unsigned v) else None

-- at a slot's time the items show the values of marked variables at its end, where the dump is on behind it, and else none
abbrev pub ShowSlot : List Bool → List Item → Bool → DumpSlot → Type 0
ShowSlot marks items on slot = (n : ℕ) (v : Vector) → slice_get marks n ≡ Some true → slice_get slot.values n ≡ Some v →
    shown_at slot.time items (code n) (length v.letters) ≡ value_if on v

-- so of each, where the dump is on or off before the first
abbrev pub ShowSlots : List Bool → List Item → Bool → List DumpSlot → Type 0
ShowSlots marks items on [] = ⊤
ShowSlots marks items on (slot ∷ slots) =
    ShowSlot marks items (on_after on slot.commands) slot × ShowSlots marks items (on_after on slot.commands) slots

-- What is written of slots, behind the header, tells items that show them.
abbrev pub body_read : Type 0
body_read = (marks : List Bool) (first : DumpSlot) (later : List DumpSlot) (end : ℕ) → RiseTo first.time later end → end < 2 ^ 64 →
    HaveValues (length first.values) (first ∷ later) →
    (items : List Item) × Tells false (words_of (body (nonempty_pieces (pieces marks (first ∷ later))) end)) items
    × DoNotFall None items × ShowSlots marks items true (first ∷ later)
