-- *trusted*: Values as printed lines show them (IEEE 1364-2005, 17.1.1.2 to 17.1.1.4, 17.1.1.7, 17.3.2). Letters of a vector stand
-- lowest first, those of a text leftmost first.
use Rattle.std.specs.Prelude.{ℕ, zero, suc, ◌+◌, ◌-◌, ◌*◌, ◌/◌, ◌^◌, ◌==◌, nat_lt, Bool, true, false, if◌then◌else◌, List, [], ◌∷◌, ◌++◌, length, map, reverse, take, drop, replicate, Option, Some, None, codes, decimal}
use Rattle.std.specs.List.{list_all, list_any}
use Rattle.vbits.specs.declared.bit4.Bit4.{Bit4}
use Rattle.vbits.specs.declared.bit4.Bit4.TheVariants.{Zero, One, X, Z}
use Rattle.vbits.specs.Letters.{is_one, is_x, is_z}
use Rattle.vbits.specs.Numbers.{number}
use Rattle.vbits.specs.Vectors.{Vector, sign_letter, neg}

-- ---- what isn't known (17.1.1.4)

-- the one letter that stands for letters not all of which are known: `x` where all are x, `z` where all are z, `X` where some are x,
-- else `Z`
abbrev pub unknown_letter : List Bit4 → ℕ
unknown_letter letters =
    if list_all is_x letters then 120
    else if list_all is_z letters then 122
    else if list_any is_x letters then 88
    else 90

-- ---- binary

abbrev pub binary_digit : Bit4 → ℕ
binary_digit Zero = 48
binary_digit One = 49
binary_digit X = 120
binary_digit Z = 122

-- all digits
abbrev pub binary : Vector → List ℕ
binary v = map binary_digit (reverse v.letters)

-- ---- hexadecimal and octal: bits are taken by fours, or by threes, from the right, the leftmost digit has those that are left

abbrev pub hexadecimal_digit : ℕ → ℕ
hexadecimal_digit n = if nat_lt n 10 then 48 + n else 87 + n

abbrev pub digit_by : List Bit4 → Option ℕ → ℕ
digit_by letters (Some n) = hexadecimal_digit n
digit_by letters None = unknown_letter letters

abbrev pub digit_of : List Bit4 → ℕ
digit_of letters = digit_by letters (number letters)

-- so many digits of so many bits each, the leftmost first
abbrev pub digits_of : ℕ → ℕ → List Bit4 → List ℕ
digits_of size zero letters = []
digits_of size (suc n) letters = digit_of (take size (drop (size * n) letters)) ∷ digits_of size n letters

abbrev pub hexadecimal : Vector → List ℕ
hexadecimal v = digits_of 4 ((length v.letters + 3) / 4) v.letters

abbrev pub octal : Vector → List ℕ
octal v = digits_of 3 ((length v.letters + 2) / 3) v.letters

-- without zeros in front of other digits
abbrev pub without_zeros : List ℕ → List ℕ
without_zeros [] = []
without_zeros (digit ∷ []) = digit ∷ []
without_zeros (digit ∷ next ∷ digits) = if digit == 48 then without_zeros (next ∷ digits) else digit ∷ next ∷ digits

-- ---- decimal

abbrev pub is_negative : Vector → Bool
is_negative v = is_one (sign_letter v)

abbrev pub minus : Bool → List ℕ
minus negative = if negative then codes "-" else []

-- a minus before the number of what is negative, negated
abbrev pub amount_of : Vector → Option ℕ
amount_of v = number (if is_negative v then neg v else v).letters

-- in so many units, or one letter where a bit is unknown
abbrev pub amount_text : Vector → ℕ → Option ℕ → List ℕ
amount_text v factor (Some n) = minus (is_negative v) ++ decimal (n * factor)
amount_text v factor None = unknown_letter v.letters ∷ []

abbrev pub short_decimal : Vector → List ℕ
short_decimal v = amount_text v 1 (amount_of v)

-- the longest text of values of this sign and length: the minus counts
abbrev pub longest : Bool → ℕ → List ℕ
longest signed count = if signed then minus true ++ decimal (2 ^ (count - 1)) else decimal (2 ^ count - 1)

-- on the right of so many places, with this letter in those before it
abbrev pub filled_in : ℕ → ℕ → List ℕ → List ℕ
filled_in letter places text = replicate (places - length text) letter ++ text

-- on the right of so many places, with blanks before it
abbrev pub right_in : ℕ → List ℕ → List ℕ
right_in places text = filled_in 32 places text

abbrev pub decimal_text : Vector → List ℕ
decimal_text v = right_in (length (longest v.signed (length v.letters))) (short_decimal v)

-- in so many places, with zeros before the digits; a minus comes before the zeros
abbrev pub zeros_in : ℕ → List ℕ → List ℕ
zeros_in places [] = filled_in 48 places []
zeros_in places (first ∷ digits) = if first == 45 then first ∷ filled_in 48 (places - 1) digits else filled_in 48 places (first ∷ digits)

-- ---- letters: `%c` and `%s` (17.1.1.2, 17.1.1.7); a bit that isn't known counts as 0

abbrev pub known_bit : Bit4 → ℕ
known_bit letter = if is_one letter then 1 else 0

abbrev pub known_number : List Bit4 → ℕ
known_number [] = 0
known_number (letter ∷ letters) = known_bit letter + 2 * known_number letters

-- `%c`: the byte on the right
abbrev pub character : Vector → List ℕ
character v = known_number (take 8 v.letters) ∷ []

-- a byte as it is shown; one of 0 is a blank, and nothing where no other stands before it
abbrev pub letter_of : Bool → ℕ → List ℕ
letter_of is_behind zero = if is_behind then codes " " else []
letter_of is_behind byte = byte ∷ []

-- whether a byte stands before the next one that isn't 0
abbrev pub has_shown : Bool → ℕ → Bool
has_shown is_behind zero = is_behind
has_shown is_behind byte = true

-- the byte at a place, counted from the right
abbrev pub byte_at : ℕ → List Bit4 → ℕ
byte_at n letters = known_number (take 8 (drop (8 * n) letters))

-- the letters of so many bytes, the leftmost first
abbrev pub letters_in : Bool → ℕ → List Bit4 → List ℕ
letters_in is_behind zero letters = []
letters_in is_behind (suc n) letters =
    letter_of is_behind (byte_at n letters) ++ letters_in (has_shown is_behind (byte_at n letters)) n letters

-- the leftmost byte has those bits that are left
abbrev pub byte_count : Vector → ℕ
byte_count v = (length v.letters + 7) / 8

abbrev pub short_letters : Vector → List ℕ
short_letters v = letters_in false (byte_count v) v.letters

-- `%s`
abbrev pub letters_text : Vector → List ℕ
letters_text v = right_in (byte_count v) (short_letters v)

-- ---- a time: the value in units of the precision, so many to one (19.8; how `%t` shows it, 17.3.2)

abbrev pub short_time : ℕ → Vector → List ℕ
short_time factor v = amount_text v factor (amount_of v)

abbrev pub time_text : ℕ → Vector → List ℕ
time_text factor v = right_in 20 (short_time factor v)
