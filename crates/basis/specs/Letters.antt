-- *trusted*: The letters of names (IEEE 1364-2005, 3.7).
use Rattle.std.specs.Prelude.{Bool, ◌||◌, ℕ, ◌==◌}
use Rattle.std.specs.Char.{is_ascii_digit, is_ascii_alphabetic}

-- a letter or `_`
abbrev pub begins_name : ℕ → Bool
begins_name c = is_ascii_alphabetic c || (c == 95)

-- a letter, `_`, a digit or `$`
abbrev pub is_in_name : ℕ → Bool
is_in_name c = begins_name c || is_ascii_digit c || (c == 36)
