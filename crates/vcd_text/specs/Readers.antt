-- *internal*: What a reader of a dump knows.
use Rattle.std.specs.Prelude.{◌≡◌, ℕ, ◌+◌, ◌-◌, ◌==◌, ◌||◌, Bool, true, if◌then◌else◌, List, [], ◌∷◌, ◌++◌, Some, All, get_or, length, map, replicate, slice_get, slice_set, take}
use Rattle.vbits.specs.declared.bit4.Bit4.{Bit4}
use Rattle.vbits.specs.Vectors.{Vector}
use Rattle.vcd_text.specs.DumpText.{Part, Piece, DumpSlot, on_after, pieces, nonempty_pieces}

-- what a reader puts to the left of the digits that stand written (18.2.2): 0 where the leftmost is 0 or 1, x or z where it is that
abbrev pub left_fill : ℕ → ℕ
left_fill d = if d == 48 || d == 49 then 48 else d

-- the digits of a value of this width
abbrev pub full_digits : ℕ → List ℕ → List ℕ
full_digits width digits = replicate (width - length digits) (left_fill (get_or digits 0 48)) ++ digits

-- each value that is told takes the place of the one before (18.2.1)
abbrev pub values_after_changes : List Vector → List (ℕ × Vector) → List Vector
values_after_changes values [] = values
values_after_changes values (entry ∷ told) = values_after_changes (slice_set values entry.0 entry.1) told

-- the values after these parts, and after these pieces
abbrev pub values_after_parts : List Vector → List Part → List Vector
values_after_parts values [] = values
values_after_parts values (part ∷ parts) = values_after_parts (values_after_changes values part.told) parts

abbrev pub values_after_pieces : List Vector → List Piece → List Vector
values_after_pieces values [] = values
values_after_pieces values (p ∷ ps) = values_after_pieces (values_after_parts values p.parts) ps

-- no sign is told (18.2.2)
abbrev pub letters_of : List Vector → List (List Bit4)
letters_of = map (λ v. v.letters)

-- what stands at the places that are marked
abbrev pub items_at : {A : Type 0} → List Bool → List A → List A
items_at marks [] = []
items_at [] (x ∷ xs) = []
items_at (mark ∷ marks) (x ∷ xs) = if mark then x ∷ items_at marks xs else items_at marks xs

-- each slot has values of so many variables
abbrev pub AllHave : ℕ → List DumpSlot → Type 0
AllHave count = All (λ slot. length slot.values ≡ count)

-- whether the dump is on after these slots (18.1.3)
abbrev pub on_over : Bool → List DumpSlot → Bool
on_over on [] = on
on_over on (slot ∷ slots) = on_over (on_after on slot.commands) slots

-- where the dump is on after a slot, what is written up to its end and with it tells the values of the variables that are marked at it,
-- whatever values a reader took up before
abbrev pub TellsValues : List Bool → List DumpSlot → Type 0
TellsValues marks slots =
    (values : List Vector) (k : ℕ) (slot : DumpSlot) → AllHave (length values) slots → slice_get slots k ≡ Some slot →
    on_over true (take (k + 1) slots) ≡ true →
    items_at marks (letters_of (values_after_pieces values (nonempty_pieces (take (k + 1) (pieces marks slots))))) ≡ items_at marks (letters_of slot.values)
