-- *trusted*: Printed lines (IEEE 1364-2005, 17.1): what the pieces of a line show at a moment.
use Rattle.std.specs.Prelude.{ℕ, Bool, true, false, List, [], ◌∷◌, ◌++◌}
use Rattle.vbits.specs.Vectors.{Vector}
use Rattle.vdesign.specs.Expressions.{ExpressionTree}
use Rattle.vdesign.specs.declared.print.Form.{Form}
use Rattle.vdesign.specs.declared.print.Notation.{Notation}
use Rattle.vdesign.specs.declared.print.Notation.TheVariants.{Binary, Octal, Hexadecimal, Decimal, Time, Character, Letters}
use Rattle.vdesign.specs.declared.print.Width.{Width}
use Rattle.vdesign.specs.declared.print.Width.TheVariants.{Natural, Least, Places, Zeros}
use Rattle.vdesign.specs.declared.print.Piece.{Piece}
use Rattle.vdesign.specs.declared.print.Piece.TheVariants.{Text, Value}
use Rattle.value_text.specs.ValueText.{binary, octal, hexadecimal, without_zeros, decimal_text, short_decimal, time_text, short_time, character, letters_text, short_letters, filled_in, right_in, zeros_in}
use Rattle.vvalue.specs.Value.{Environment, self_determined_value}

-- 17.1.1.2: a value in all its digits, or letters; a time is told in units of the precision, of which so many make one of its own
-- (17.3.2, 19.8)
abbrev pub digits_of : Notation → ℕ → Vector → List ℕ
digits_of Binary factor v = binary v
digits_of Octal factor v = octal v
digits_of Hexadecimal factor v = hexadecimal v
digits_of Decimal factor v = short_decimal v
digits_of Time factor v = short_time factor v
digits_of Character factor v = character v
digits_of Letters factor v = short_letters v

-- 17.1.1.3: in as many places as the longest value takes
abbrev pub natural_text : Notation → ℕ → Vector → List ℕ
natural_text Binary factor v = binary v
natural_text Octal factor v = octal v
natural_text Hexadecimal factor v = hexadecimal v
natural_text Decimal factor v = decimal_text v
natural_text Time factor v = time_text factor v
natural_text Character factor v = character v
natural_text Letters factor v = letters_text v

-- 17.1.1.3: in as few as it can be
abbrev pub least_text : Notation → List ℕ → List ℕ
least_text Binary digits = without_zeros digits
least_text Octal digits = without_zeros digits
least_text Hexadecimal digits = without_zeros digits
least_text Decimal digits = digits
least_text Time digits = digits
least_text Character digits = digits
least_text Letters digits = digits

-- with zeros before them, and blanks before letters (own)
abbrev pub zeros_text : Notation → ℕ → List ℕ → List ℕ
zeros_text Binary places digits = zeros_in places digits
zeros_text Octal places digits = zeros_in places digits
zeros_text Hexadecimal places digits = zeros_in places digits
zeros_text Decimal places digits = zeros_in places digits
zeros_text Time places digits = zeros_in places digits
zeros_text Character places digits = filled_in 48 places digits
zeros_text Letters places digits = right_in places digits

abbrev pub text_in : Width → Notation → ℕ → Vector → List ℕ
text_in Natural notation factor v = natural_text notation factor v
text_in Least notation factor v = least_text notation (digits_of notation factor v)
text_in (Places places) notation factor v = right_in places (digits_of notation factor v)
text_in (Zeros places) notation factor v = zeros_text notation places (digits_of notation factor v)

abbrev pub shown_as : Form → ℕ → Vector → List ℕ
shown_as form factor v = text_in form.width form.notation factor v

abbrev pub piece_text : Environment → Piece → List ℕ
piece_text now (Text bytes) = bytes
piece_text now (Value form is_watched value) = shown_as form now.factor (self_determined_value now value)

abbrev pub pieces_text : Environment → List Piece → List ℕ
pieces_text now [] = []
pieces_text now (piece ∷ pieces) = piece_text now piece ++ pieces_text now pieces

-- 17.1.3: the values of the arguments whose changes make a monitor print: all but a bare `$time`
abbrev pub watched_one : Environment → Bool → ExpressionTree → List Vector
watched_one now true value = self_determined_value now value ∷ []
watched_one now false value = []

abbrev pub watched_in : Environment → Piece → List Vector
watched_in now (Text bytes) = []
watched_in now (Value form is_watched value) = watched_one now is_watched value

abbrev pub values_watched : Environment → List Piece → List Vector
values_watched now [] = []
values_watched now (piece ∷ pieces) = watched_in now piece ++ values_watched now pieces
