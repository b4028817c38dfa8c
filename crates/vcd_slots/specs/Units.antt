-- *trusted*: The times of a dump in another unit: each is the same moment (IEEE 1364-2005, 18.2.3.5, 19.8).
use Rattle.std.specs.Prelude.{◌≡◌, ℕ, ◌*◌, List, [], ◌∷◌, Option, Some, None, ⊤}
use Rattle.basis.specs.declared.timescale.Span.{Span}
use Rattle.basis.specs.Timescales.{femtoseconds}
use Rattle.vcd_read.specs.Commands.{Item, at, value, off, on}
use Rattle.vcd_slots.specs.declared.units.Units.{Units}

-- the unit in which the dump counts, in femtoseconds, and the one in which times are shown; where none is given, it counts in that one
abbrev pub units_of : Option Span → Span → Units
units_of None shown = record { told = femtoseconds shown; shown = femtoseconds shown }
units_of (Some told) shown = record { told = femtoseconds told; shown = femtoseconds shown }

-- the same moment
abbrev pub IsSameTime : Units → ℕ → ℕ → Type 0
IsSameTime units time now = time * units.told ≡ now * units.shown

abbrev pub IsInUnit : Units → Item → Item → Type 0
IsInUnit units (at time) item = (now : ℕ) × (item ≡ at now) × IsSameTime units time now
IsInUnit units (value code digits) item = item ≡ value code digits
IsInUnit units off item = item ≡ off
IsInUnit units on item = item ≡ on

-- the items of a dump, and the same ones with each time in the unit that is shown
abbrev pub AreInUnit : Units → List Item → List Item → Type 0
AreInUnit units [] [] = ⊤
AreInUnit units [] (item ∷ items) = ⊥
AreInUnit units (told ∷ more) [] = ⊥
AreInUnit units (told ∷ more) (item ∷ items) = IsInUnit units told item × AreInUnit units more items
