-- *trusted*: Timescales (IEEE 1364-2005, 19.8): the unit that times are written in, and the precision, in units of which time is counted.
use Rattle.std.specs.Prelude.{ℕ, ◌*◌, ◌/◌, ◌==◌, ◌&&◌, Bool, List, codes}
use Rattle.basis.specs.declared.timescale.Count.{Count}
use Rattle.basis.specs.declared.timescale.Count.TheVariants.{One, Ten, Hundred}
use Rattle.basis.specs.declared.timescale.Unit.{Unit}
use Rattle.basis.specs.declared.timescale.Unit.TheVariants.{Second, Millisecond, Microsecond, Nanosecond, Picosecond, Femtosecond}
use Rattle.basis.specs.declared.timescale.Span.{Span}
use Rattle.basis.specs.declared.timescale.Timescale.{Timescale}

abbrev pub count_number : Count → ℕ
count_number One = 1
count_number Ten = 10
count_number Hundred = 100

-- units, as a timescale spells them
abbrev pub unit_word : Unit → List ℕ
unit_word Second = codes "s"
unit_word Millisecond = codes "ms"
unit_word Microsecond = codes "us"
unit_word Nanosecond = codes "ns"
unit_word Picosecond = codes "ps"
unit_word Femtosecond = codes "fs"

-- units and lengths of time in femtoseconds
abbrev pub unit_femtoseconds : Unit → ℕ
unit_femtoseconds Second = 1000000000000000
unit_femtoseconds Millisecond = 1000000000000
unit_femtoseconds Microsecond = 1000000000
unit_femtoseconds Nanosecond = 1000000
unit_femtoseconds Picosecond = 1000
unit_femtoseconds Femtosecond = 1

abbrev pub femtoseconds : Span → ℕ
femtoseconds span = count_number span.count * unit_femtoseconds span.unit

-- two timescales are alike where unit and precision have the same lengths
abbrev pub is_like : Timescale → Timescale → Bool
is_like a b = femtoseconds a.unit == femtoseconds b.unit && femtoseconds a.precision == femtoseconds b.precision

-- what holds where no timescale stands: 1 ns and 1 ns (own)
abbrev pub usual_timescale : Timescale
usual_timescale = record { unit = record { count = One; unit = Nanosecond }; precision = record { count = One; unit = Nanosecond } }

-- how many units of the precision make one in which times are written: 10 of 100 ps in 1 ns
abbrev pub factor : Timescale → ℕ
factor scale = femtoseconds scale.unit / femtoseconds scale.precision
