-- *trusted*: Sets of bytes (IEEE 1364-2005, 3.2, 3.5.1, 3.7), and what a byte can begin.
use Rattle.std.specs.Prelude.{ℕ, Bool, ◌==◌, ◌&&◌, ◌||◌, not, nat_le, if◌then◌else◌, codes}
use Rattle.std.specs.List.{list_any}
use Rattle.std.specs.Char.{is_ascii_digit, is_ascii_alphabetic, is_ascii_hexdigit}
use Rattle.vlex.specs.declared.bytes.Set.{Set}
use Rattle.vlex.specs.declared.bytes.Set.TheVariants.{Blanks, Marks, Words, Escapes, Decimals, Binaries, Octals, Hexadecimals, Underscores, LineBytes}
use Rattle.vlex.specs.declared.bytes.Lead.{Lead}
use Rattle.vlex.specs.declared.bytes.Lead.TheVariants.{Blank, Letter, Backslash, Dollar, Digit, Apostrophe, Quote, Slash, Punctuation, Other}

-- 3.5.1: x in either case
abbrev pub is_x_digit : ℕ → Bool
is_x_digit c = c == 120 || c == 88

-- 3.5.1: z in either case, and ?, which is another z
abbrev pub is_z_digit : ℕ → Bool
is_z_digit c = c == 122 || c == 90 || c == 63

abbrev pub is_unknown : ℕ → Bool
is_unknown c = is_x_digit c || is_z_digit c

-- 3.5.1: it parts digits, and is passed over
abbrev pub is_underscore : ℕ → Bool
is_underscore c = c == 95

-- 3.5.1: it stands before the base of a number
abbrev pub is_apostrophe : ℕ → Bool
is_apostrophe c = c == 39

-- space, tab, line feed, form feed (3.2), and carriage return (own)
abbrev pub is_blank : ℕ → Bool
is_blank c = c == 32 || c == 9 || c == 10 || c == 13 || c == 12

abbrev pub is_in : Set → ℕ → Bool
is_in Blanks c = is_blank c
is_in Marks c = not (is_blank c)
-- letters, digits, _ and $ (3.7)
is_in Words c = is_ascii_alphabetic c || is_ascii_digit c || c == 95 || c == 36
-- what an escaped name is made of: the printable characters (3.7.1), but no dot, which parts the names of a path (own)
is_in Escapes c = nat_le 33 c && nat_le c 126 && not (c == 46)
-- digits of each base, with _ (3.5.1)
is_in Decimals c = is_ascii_digit c || c == 95
is_in Binaries c = c == 48 || c == 49 || is_unknown c || c == 95
is_in Octals c = (nat_le 48 c && nat_le c 55) || is_unknown c || c == 95
is_in Hexadecimals c = is_ascii_hexdigit c || is_unknown c || c == 95
is_in Underscores c = c == 95
-- all but a line feed
is_in LineBytes c = not (c == 10)

-- 3.4, 5.1: the symbols of one byte, save the slash
abbrev pub is_punctuation : ℕ → Bool
is_punctuation c = list_any (λ symbol. symbol == c) (codes "+-*%&|^~!?:=<>@#()[]{},;.")

-- what a byte begins
abbrev pub lead_of : ℕ → Lead
lead_of c =
    if is_in Blanks c then Blank
    else if is_ascii_alphabetic c || c == 95 then Letter
    else if c == 92 then Backslash
    else if c == 36 then Dollar
    else if is_ascii_digit c then Digit
    else if is_apostrophe c then Apostrophe
    else if c == 34 then Quote
    else if c == 47 then Slash
    else if is_punctuation c then Punctuation
    else Other
