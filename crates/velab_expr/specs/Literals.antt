-- *trusted*: What a number of the text stands for (IEEE 1364-2005, 3.5.1). The letters of a vector stand lowest first, the digits of a
-- number highest first. A text that is no number has a value too, which stands nowhere.
use Rattle.std.specs.Prelude.{ℕ, ◌+◌, ◌-◌, ◌==◌, ◌&&◌, ◌||◌, nat_lt, min, max, not, Bool, true, false, if◌then◌else◌, List, [], ◌∷◌, ◌++◌, length, take, drop, replicate, get_or, Option, Some, None, position}
use Rattle.vbits.specs.declared.bit4.Bit4.{Bit4}
use Rattle.vbits.specs.declared.bit4.Bit4.TheVariants.{Zero, X, Z}
use Rattle.vbits.specs.Letters.{is_unknown}
use Rattle.vbits.specs.Numbers.{digits}
use Rattle.vbits.specs.Vectors.{Vector, filled, of_number, with_sign}
use Rattle.vlex.specs.Bytes.{is_apostrophe, is_underscore, is_x_digit, is_z_digit}
use Rattle.vlex.specs.Forms.{leading_digits, spelled_number, skip_blanks}
use Rattle.vwords.specs.Words.{Text}
use Rattle.vdesign.specs.declared.expression.Constant.{Constant}

-- 0 to 9, and a to f in either case
abbrev pub digit_value : ℕ → ℕ
digit_value c = if nat_lt c 65 then c - 48 else if nat_lt c 97 then c - 65 + 10 else c - 97 + 10

-- the letters of one digit, where each digit of the base stands for so many
abbrev pub digit_letters : ℕ → ℕ → List Bit4
digit_letters count c =
    if is_x_digit c then replicate count X
    else if is_z_digit c then replicate count Z
    else digits count (digit_value c)

-- the letters that digits spell: those further right are lower
abbrev pub spelled_letters : ℕ → Text → List Bit4
spelled_letters count [] = []
spelled_letters count (c ∷ cs) =
    if is_underscore c then spelled_letters count cs
    else spelled_letters count cs ++ digit_letters count c

-- 0 where there is none
abbrev pub first_byte : Text → ℕ
first_byte text = get_or text 0 0

-- what a number is filled with on the left: x or z where its leftmost digit is that, else 0
abbrev pub filling_letters : Text → Bit4
filling_letters ds = if is_x_digit (first_byte ds) then X else if is_z_digit (first_byte ds) then Z else Zero

abbrev pub is_decimal_base : ℕ → Bool
is_decimal_base c = c == 100 || c == 68

-- for how many letters a digit of base b, o or h stands
abbrev pub letters_per_digit : ℕ → ℕ
letters_per_digit c = if c == 98 || c == 66 then 1 else if c == 111 || c == 79 then 3 else 4

-- base d: x and z stand alone, and the bits of a number that doesn't fit are lost on the left
abbrev pub decimal_value : ℕ → Text → Vector
decimal_value size ds = if is_unknown (filling_letters ds) then filled size (filling_letters ds) else of_number size (spelled_number ds)

-- bases b, o and h: filled on the left, or what is too long lost there
abbrev pub lettered_value : ℕ → ℕ → Text → Vector
lettered_value size count ds = record {
  letters = take size (spelled_letters count ds ++ replicate 64 (filling_letters ds));
  signed = false;
}

abbrev pub based_value : ℕ → ℕ → Text → Vector
based_value size base ds =
    if is_decimal_base base then decimal_value size ds
    else lettered_value size (letters_per_digit base) ds

-- 1 to 64 (own); 32 where none is written (own: 3.5.1 has at least 32)
abbrev pub size_of : Text → ℕ
size_of ds = if length ds == 0 then 32 else max 1 (min 64 (spelled_number ds))

-- a decimal number without base: signed, 32 bits (own: 3.5.1 has at least 32)
abbrev pub plain_constant : Text → Constant
plain_constant ds = record { value = with_sign (of_number 32 (spelled_number ds)) true; spreads = false }

-- s or S, the mark of a signed number
abbrev pub is_marked : Text → Bool
is_marked text = first_byte text == 115 || first_byte text == 83

-- the base and what stands after it
abbrev pub without_mark : Text → Text
without_mark text = if is_marked text then drop 1 text else text

abbrev pub is_unknown_at : Vector → ℕ → Bool
is_unknown_at value place = is_unknown (get_or value.letters place Zero)

-- one without size and mark whose bit 31 is x or z is extended by that letter
abbrev pub spreads_by : Text → Bool → Vector → Bool
spreads_by size marked value = (length size == 0) && not marked && is_unknown_at value 31

-- the digits after the base, behind blanks or none
abbrev pub digits_behind : Text → Text
digits_behind text = skip_blanks (drop 1 (without_mark text))

-- a size, or none, and what stands after the apostrophe
abbrev pub based_constant : Text → Text → Constant
based_constant size text =
    let value = based_value (size_of size) (first_byte (without_mark text)) (digits_behind text) in
    record { value = with_sign value (is_marked text); spreads = spreads_by size (is_marked text) value }

-- the digits of the size before the apostrophe that stands there
abbrev pub size_before : ℕ → Text → Text
size_before place text = leading_digits (take place text)

-- a number whose apostrophe stands there
abbrev pub constant_by : Text → Option ℕ → Constant
constant_by text None = plain_constant text
constant_by text (Some place) = based_constant (size_before place text) (drop (place + 1) text)

abbrev pub constant_of : Text → Constant
constant_of text = constant_by text (position is_apostrophe text)
