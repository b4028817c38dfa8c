-- *internal*: What an item is to the slot that is read.
use Rattle.std.specs.Prelude.{◌≡◌, ℕ, [], ◌∷◌, Option, None, Some, ⊤}
use Rattle.vcd_read.specs.Commands.{Item, at, value, off, on}
use Rattle.vcd_slots.specs.Standing.{IsLater, Leads}
use Rattle.vcd_slots.specs.declared.columns.Columns.{Columns}
use Rattle.vcd_slots.specs.declared.slots.Taken.{Taken}
use Rattle.vcd_slots.specs.declared.slots.Taken.TheVariants.{Told, Next, Refused}

abbrev pub IsNoTime : Item → Type 0
IsNoTime (at time) = ⊥
IsNoTime (value code digits) = ⊤
IsNoTime off = ⊤
IsNoTime on = ⊤

-- the item is this time, or none
abbrev pub IsTimeOf : Option ℕ → Item → Type 0
IsTimeOf None item = IsNoTime item
IsTimeOf (Some time) item = item ≡ at time

-- a time is the one that is shown, or a later one
abbrev pub IsTaken : Option ℕ → Taken → ℕ → Type 0
IsTaken shown Told time = shown ≡ Some time
IsTaken shown (Next next) time = (next ≡ time) × IsLater shown (Some time)
IsTaken shown (Refused flaw) time = ⊤

-- an item is told to the columns, or it is a later time and changes nothing
abbrev pub TakenSo : Columns → Columns → Option ℕ → Item → Taken → Type 0
TakenSo old new shown item Told = Leads old new shown (item ∷ [])
TakenSo old new shown item (Next time) = (item ≡ at time) × IsLater shown (Some time) × (new ≡ old)
TakenSo old new shown item (Refused flaw) = ⊤
