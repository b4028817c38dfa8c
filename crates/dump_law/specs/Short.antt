-- *internal*: What of a history a dump tells, and how much of it there is.
use Rattle.std.specs.Prelude.{ℕ, suc, ◌<◌, ◌≤◌, ◌^◌, List, [], ◌∷◌, All, length}
use Rattle.vbits.specs.Vectors.{Vector}
use Rattle.vmodel.specs.declared.history.Item.{Item}
use Rattle.vmodel.specs.declared.history.Item.TheVariants.{SlotEnd, Dump, Line, Monitor}

-- a value of at most 64 bits
abbrev pub IsNarrow : Vector → Type 0
IsNarrow value = length value.letters ≤ 64

-- a slot end has at most 1,024 such values, at a time of 64 bits
abbrev pub IsShort : Item → Type 0
IsShort (SlotEnd time values) = (time < 2 ^ 64) × (length values ≤ 1024) × All IsNarrow values
IsShort (Dump command) = Unit {0}
IsShort (Line text) = Unit {0}
IsShort (Monitor place) = Unit {0}

-- how many slot ends and dump commands there are
abbrev pub told_in : List Item → ℕ
told_in [] = 0
told_in (SlotEnd time values ∷ items) = suc (told_in items)
told_in (Dump command ∷ items) = suc (told_in items)
told_in (Line text ∷ items) = told_in items
told_in (Monitor place ∷ items) = told_in items
