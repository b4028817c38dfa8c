-- *trusted*: Numbers in a value change dump (IEEE 1364-2005, 18.2.1, 3.5.1).
use Rattle.std.specs.Prelude.{◌≡◌, ℕ, ◌<◌, ◌^◌, length, true}
use Rattle.std.specs.Str.{all_ascii_digits}
use Rattle.std.specs.Str.Parse.{digits_value}
use Rattle.vcd_read.specs.Words.{Text}

-- The word is a decimal number of 64 bits: zeros may stand in front, but no underline (own).
pub record IsDecimal (word : Text) (n : ℕ) : Type 0 where
  pub some : 0 < length word
  pub digits : all_ascii_digits word ≡ true
  pub value : digits_value 10 word ≡ n
  pub small : n < 2 ^ 64
