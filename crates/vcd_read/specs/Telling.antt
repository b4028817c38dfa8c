-- *internal*: How far what a dump tells has come.
use Rattle.std.specs.Prelude.{Bool, true, false, List, [], ◌∷◌, ◌++◌, Option, None, Some}
use Rattle.vcd_read.specs.Words.{Text}
use Rattle.vcd_read.specs.Commands.{Item, at, value, off, on, Tells}
use Rattle.vcd_read.specs.declared.item.VcdItem.{VcdItem}
use Rattle.vcd_read.specs.declared.item.VcdItem.TheVariants.{Time, Value, Off, On}

-- an item as definitions see it
abbrev pub item_of : VcdItem → Item
item_of (Time t) = at t
item_of (Value code digits) = value code.items digits.items
item_of Off = off
item_of On = on

abbrev pub items_of : Option VcdItem → List Item
items_of None = []
items_of (Some item) = item_of item ∷ []

-- These words tell these items, and lead into a block or out of it: whatever is told behind them goes on from there.
abbrev pub Tell : List Text → Bool → Bool → List Item → Type 0
Tell words old new items = (rest : List Text) (more : List Item) → Tells new rest more → Tells old (words ++ rest) (items ++ more)

-- the word opens a block, and tells these items
abbrev pub Opens : Text → List Item → Type 0
Opens word items = (rest : List Text) (more : List Item) → Tells true rest more → Tells false (word ∷ rest) (items ++ more)
