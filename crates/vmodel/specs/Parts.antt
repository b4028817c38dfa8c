-- *trusted*: What a step writes (IEEE 1364-2005, clause 6): parts of variables with their new letters, in order.
use Rattle.std.specs.Prelude.{ℕ, ◌+◌, nat_le, if◌then◌else◌, List, [], ◌∷◌, ◌++◌, length, take, drop, slice_get, slice_set, unwrap_or}
use Rattle.vbits.specs.declared.bit4.Bit4.TheVariants.{X}
use Rattle.vbits.specs.Vectors.{Vector, filled}
use Rattle.vmodel.specs.declared.part.Part.{Part}
use Rattle.vmodel.specs.declared.part.Part.TheVariants.{Whole, Bits}

abbrev pub value_in : List Vector → ℕ → Vector
value_in values variable = unwrap_or (slice_get values variable) (filled 1 X)

-- 5.2.1: a vector with these letters from a place on; where it has not so many nothing is written
abbrev pub with_bits : Vector → ℕ → Vector → Vector
with_bits old low value =
    let high = low + length value.letters in
    if nat_le high (length old.letters) then record old { letters = take low old.letters ++ value.letters ++ drop high old.letters }
    else old

-- the values after one part is written; a part of no variable writes nothing
abbrev pub write : Part → List Vector → List Vector
write (Whole variable value) values = slice_set values variable value
write (Bits variable low value) values = slice_set values variable (with_bits (value_in values variable) low value)

-- the values after the parts are written, from left to right
abbrev pub with_parts : List Part → List Vector → List Vector
with_parts [] values = values
with_parts (part ∷ parts) values = with_parts parts (write part values)
