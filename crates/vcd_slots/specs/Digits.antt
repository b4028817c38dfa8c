-- *internal*: Digits that come one by one.
use Rattle.std.specs.Prelude.{ℕ, false, ◌∷◌, replicate}
use Rattle.vbits.specs.declared.bit4.Bit4.{Bit4}
use Rattle.vbits.specs.Vectors.{Vector}
use Rattle.vcd_read.specs.Words.{Text}
use Rattle.vcd_slots.specs.Slots.{extension, put_digits}

-- a letter, with so many to its left
abbrev pub extend_letter : Bit4 → ℕ → Vector
extend_letter letter more = record { letters = letter ∷ replicate more (extension letter); signed = false }

-- with the letters of digits to its right
abbrev pub put_all : Vector → Text → Vector
put_all start digits = record { letters = put_digits start.letters digits; signed = false }
