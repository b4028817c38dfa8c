-- *trusted*: The whole numbers that lists of letters stand for (IEEE 1364-2005, 4.3.1, 5.1.6), lowest letter first.
use Rattle.std.specs.Prelude.{Bool, if◌then◌else◌, ℕ, zero, suc, ◌*◌, ◌+◌, ◌/◌, ◌%◌, ◌^◌, ◌-◌, ℤ, pos, ◌-ℤ◌, nat_le, List, [], ◌∷◌, Option, Some, None, length, unsigned_abs, option_map}
use Rattle.std.specs.Int.{int_rem_euclid}
use Rattle.vbits.specs.declared.bit4.Bit4.{Bit4}
use Rattle.vbits.specs.declared.bit4.Bit4.TheVariants.{Zero, One, X, Z}

-- the number written with these binary digits, or None where a letter is unknown
abbrev pub number : List Bit4 → Option ℕ
number [] = Some 0
number (Zero ∷ high) = option_map (λ n. 2 * n) (number high)
number (One ∷ high) = option_map (λ n. 2 * n + 1) (number high)
number (X ∷ high) = None
number (Z ∷ high) = None

abbrev pub digit : ℕ → Bit4
digit zero = Zero
digit (suc _) = One

-- the lowest binary digits of n, as many as count says
abbrev pub digits : ℕ → ℕ → List Bit4
digits zero n = []
digits (suc count) n = digit (n % 2) ∷ digits count (n / 2)

-- two's complement: n of this many digits stands for n - 2 ^ count where its leftmost digit is 1
abbrev pub twos_complement : ℕ → ℕ → ℤ
twos_complement count n = if nat_le (2 ^ (count - 1)) n then pos n -ℤ pos (2 ^ count) else pos n

-- what a number of this many digits is read as, signed or not
abbrev pub read : Bool → ℕ → ℕ → ℤ
read signed count n = if signed then twos_complement count n else pos n

-- the integer that the letters stand for, read as signed or not (5.1.6), or None where one is unknown
abbrev pub integer : Bool → List Bit4 → Option ℤ
integer signed letters = option_map (read signed (length letters)) (number letters)

-- the digits of an integer modulo 2 ^ count: sums and products wrap (4.3.1)
abbrev pub wrap : ℕ → ℤ → List Bit4
wrap count z = digits count (unsigned_abs (int_rem_euclid z (pos (2 ^ count))))
