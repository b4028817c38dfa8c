-- *trusted*: Formats of printed texts (IEEE 1364-2005, 17.1.1; docs/LANGUAGE.md, "Printed lines"): what a string prints, and where it
-- shows the arguments after it.
use Rattle.std.specs.Prelude.{ℕ, ◌==◌, ◌+◌, ◌-◌, ◌*◌, ◌%◌, ◌&&◌, nat_le, nat_lt, ◌||◌, Bool, false, if◌then◌else◌, List, [], ◌∷◌, ◌++◌, Option, Some, None, option_map, option_and_then}
use Rattle.format_text.specs.declared.letters.Escape.{Escape}
use Rattle.format_text.specs.declared.letters.Escape.TheVariants.{Plain, Backslash, One, Two}
use Rattle.std.specs.Char.{is_ascii_digit}
use Rattle.value_text.specs.ValueText.{right_in}
use Rattle.vdesign.specs.declared.print.Form.{Form}
use Rattle.vdesign.specs.declared.print.Notation.{Notation}
use Rattle.vdesign.specs.declared.print.Notation.TheVariants.{Binary, Octal, Hexadecimal, Decimal, Time, Character, Letters}
use Rattle.vdesign.specs.declared.print.Width.{Width}
use Rattle.vdesign.specs.declared.print.Width.TheVariants.{Natural, Least, Places, Zeros}

-- ---- the letters of a string, of what stands between its quotes (3.6.3, table 3-1)

-- what a letter after a backslash stands for: `\n` and `\t`; `\\` and `\"` stand for themselves
abbrev pub escaped_letter : ℕ → ℕ
escaped_letter c = if c == 110 then 10 else if c == 116 then 9 else c

-- one to three octal digits after a backslash are the letter of that number; a token has none above 377
abbrev pub octal_of : ℕ → Option ℕ
octal_of c = if nat_le 48 c && nat_le c 55 then Some (c - 48) else None

abbrev pub with_octal : ℕ → ℕ → ℕ
with_octal value digit = (8 * value + digit) % 256

-- a letter outside of escapes: a backslash begins one
abbrev pub letters_plain : ℕ → List ℕ
letters_plain c = if c == 92 then [] else c ∷ []

abbrev pub after_plain : ℕ → Escape
after_plain c = if c == 92 then Backslash else Plain

-- the letters that are had with one more that is read, which may be an octal digit
abbrev pub letters_read : Escape → Option ℕ → ℕ → List ℕ
letters_read Plain digit c = letters_plain c
letters_read Backslash None c = escaped_letter c ∷ []
letters_read Backslash (Some digit) c = []
letters_read (One value) None c = value ∷ letters_plain c
letters_read (One value) (Some digit) c = []
letters_read (Two value) None c = value ∷ letters_plain c
letters_read (Two value) (Some digit) c = with_octal value digit ∷ []

abbrev pub after_letter : Escape → Option ℕ → ℕ → Escape
after_letter Plain digit c = after_plain c
after_letter Backslash None c = Plain
after_letter Backslash (Some digit) c = One digit
after_letter (One value) None c = after_plain c
after_letter (One value) (Some digit) c = Two (with_octal value digit)
after_letter (Two value) None c = after_plain c
after_letter (Two value) (Some digit) c = Plain

-- and with the end of the string
abbrev pub letters_left : Escape → List ℕ
letters_left Plain = []
letters_left Backslash = []
letters_left (One value) = value ∷ []
letters_left (Two value) = value ∷ []

abbrev pub letters_of : Escape → List ℕ → List ℕ
letters_of escape [] = letters_left escape
letters_of escape (c ∷ cs) = letters_read escape (octal_of c) c ++ letters_of (after_letter escape (octal_of c) c) cs

-- ---- forms: what stands after a `%` (17.1.1.2, 17.1.1.3)

-- a letter in either case
abbrev pub is_letter : ℕ → ℕ → ℕ → Bool
is_letter small large c = c == small || c == large

-- b, o, h, d, t, c, s; and x, which is h (own)
abbrev pub notation_of : ℕ → Option Notation
notation_of c =
    if is_letter 98 66 c then Some Binary
    else if is_letter 111 79 c then Some Octal
    else if is_letter 104 72 c then Some Hexadecimal
    else if is_letter 120 88 c then Some Hexadecimal
    else if is_letter 100 68 c then Some Decimal
    else if is_letter 116 84 c then Some Time
    else if is_letter 99 67 c then Some Character
    else if is_letter 115 83 c then Some Letters
    else None

-- the number of so many places, after those digits that came before; at most 999 (own)
abbrev pub places_by : ℕ → List ℕ → Option ℕ
places_by n [] = Some n
places_by n (c ∷ cs) = if nat_lt 99 n then None else places_by (10 * n + (c - 48)) cs

-- what digits after a 0 say
abbrev pub zeros_of : List ℕ → Option Width
zeros_of [] = Some Least
zeros_of (c ∷ cs) = if c == 48 then None else option_map Zeros (places_by 0 (c ∷ cs))

-- what the digits before the letter say: `%d`, `%0d`, `%05d`, `%5d`
abbrev pub width_of : List ℕ → Option Width
width_of [] = Some Natural
width_of (c ∷ cs) = if c == 48 then zeros_of cs else option_map Places (places_by 0 (c ∷ cs))

abbrev pub form_by : Option Width → Option Notation → Option Form
form_by None notation = None
form_by (Some width) None = None
form_by (Some width) (Some notation) = Some (record { notation = notation; width = width })

-- letters in a width (own)
abbrev pub letters_in : Width → List ℕ → List ℕ
letters_in Natural letters = letters
letters_in Least letters = letters
letters_in (Places places) letters = right_in places letters
letters_in (Zeros places) letters = right_in places letters

-- ---- the front of a format: letters that are printed, the first form that takes an argument, if there is one, and what stands after it

pub record FormatFront : Type 0 where
  pub letters : List ℕ
  pub form : Option Form
  pub rest : List ℕ

abbrev pub front_with_form : List ℕ → Option Form → List ℕ → Option FormatFront
front_with_form letters None rest = None
front_with_form letters (Some form) rest = Some (record { letters = letters; form = Some form; rest = rest })

-- `%%` has no digits
abbrev pub is_percent : List ℕ → ℕ → Bool
is_percent [] c = c == 37
is_percent (digit ∷ digits) c = false

abbrev mutual
  -- the path of the scope, letters so far, and those that are left: `%` (37) begins a form
  pub front_by : List ℕ → List ℕ → List ℕ → Option FormatFront
  front_by path letters [] = Some (record { letters = letters; form = None; rest = [] })
  front_by path letters (c ∷ cs) = if c == 37 then front_in_form path letters [] cs else front_by path (letters ++ c ∷ []) cs

  -- in a form, with its digits so far: behind them stands its letter. `%m` prints the path in the width that they say (17.1.1.6; the width: own),
  -- and `%%` prints `%`; these take no argument
  pub front_in_form : List ℕ → List ℕ → List ℕ → List ℕ → Option FormatFront
  front_in_form path letters digits [] = None
  front_in_form path letters digits (c ∷ cs) =
      if is_ascii_digit c then front_in_form path letters (digits ++ c ∷ []) cs
      else if is_letter 109 77 c then option_and_then (λ width. front_by path (letters ++ letters_in width path) cs) (width_of digits)
      else if is_percent digits c then front_by path (letters ++ c ∷ []) cs
      else front_with_form letters (form_by (width_of digits) (notation_of c)) cs

-- with the path of the scope that the format stands in; none where a `%` stands in it at its end, or before what is no form
abbrev pub front_of : List ℕ → List ℕ → Option FormatFront
front_of path format = front_by path [] format
