-- *internal*: How two words stand for a list of letters: a letter is a bit of each, lowest first.
use Rattle.std.specs.Prelude.{Bool, true, false, if◌then◌else◌, ℤ, pos, neg_ℤ, ℕ, zero, suc, ◌+◌, ◌-◌, ◌*◌, ◌/◌, ◌%◌, ◌^◌, ◌<◌, ◌≤◌, List, [], ◌∷◌}
use Rattle.vbits.specs.declared.bit4.Bit4.{Bit4}
use Rattle.vbits.specs.declared.bit4.Bit4.TheVariants.{Zero, One, X, Z}

-- by its bit of the value plane and its bit of the unknown plane
abbrev pub letter : ℕ → ℕ → Bit4
letter zero zero = Zero
letter (suc _) zero = One
letter zero (suc _) = Z
letter (suc _) (suc _) = X

abbrev pub letters_of : ℕ → ℕ → ℕ → List Bit4
letters_of zero value unknown = []
letters_of (suc count) value unknown =
    letter (value % 2) (unknown % 2) ∷ letters_of count (value / 2) (unknown / 2)

abbrev pub value_bit : Bit4 → ℕ
value_bit Zero = 0
value_bit One = 1
value_bit X = 1
value_bit Z = 0

abbrev pub unknown_bit : Bit4 → ℕ
unknown_bit Zero = 0
unknown_bit One = 0
unknown_bit X = 1
unknown_bit Z = 1

-- the planes of a list of letters
abbrev pub values_of : List Bit4 → ℕ
values_of [] = 0
values_of (x ∷ xs) = 2 * values_of xs + value_bit x

abbrev pub unknowns_of : List Bit4 → ℕ
unknowns_of [] = 0
unknowns_of (x ∷ xs) = 2 * unknowns_of xs + unknown_bit x

-- 1 to 64 letters, and no bit above them
pub record Planes (len value unknown : ℕ) : Type 0 where
  pub some : 1 ≤ len
  pub few : len ≤ 64
  pub value_within : value < 2 ^ len
  pub unknown_within : unknown < 2 ^ len

-- a word of this many bits that all are the bit
abbrev pub run : ℕ → ℕ → ℕ
run zero count = 0
run (suc _) count = 2 ^ count - 1

-- what stands above a plane of len bits as it is made longer: its top bit where it is signed, else 0
abbrev pub sign_bit : ℕ → ℕ → Bool → ℕ
sign_bit plane len signed = if signed then plane / 2 ^ (len - 1) % 2 else 0

-- the bits from low to high are those of the part
abbrev pub splice : ℕ → ℕ → ℕ → ℕ → ℕ
splice plane high low part =
    plane / 2 ^ (high + 1) * 2 ^ (high + 1) + part * 2 ^ low + plane % 2 ^ low

-- a magnitude and whether it is below 0
abbrev pub signed_number : Bool → ℕ → ℤ
signed_number false magnitude = pos magnitude
signed_number true magnitude = neg_ℤ (pos magnitude)
