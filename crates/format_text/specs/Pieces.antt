-- *trusted*: The pieces of a printed text (IEEE 1364-2005, 17.1.1): strings are formats that take the arguments after them.
use Rattle.std.specs.Prelude.{◌≡◌, ℕ, Bool, true, false, List, [], ◌∷◌, ◌++◌, Option, Some, None, unwrap_or}
use Rattle.vdesign.specs.Expressions.{ExpressionTree}
use Rattle.vdesign.specs.declared.print.Form.{Form}
use Rattle.vdesign.specs.declared.print.Notation.{Notation}
use Rattle.vdesign.specs.declared.print.Notation.TheVariants.{Binary, Octal, Hexadecimal, Decimal, Time, Character, Letters}
use Rattle.vdesign.specs.declared.print.Width.{Width}
use Rattle.vdesign.specs.declared.print.Piece.{Piece}
use Rattle.vdesign.specs.declared.print.Piece.TheVariants.{Text, Value}
use Rattle.format_text.specs.declared.letters.Escape.TheVariants.{Plain}
use Rattle.format_text.specs.Formats.{FormatFront, letters_of, front_of, letters_in}

-- the path of the scope that the task stands in, and a string as it stands between its quotes; or whether a monitor watches an expression, and
-- that (17.1.3)
pub data Argument : Type 0 where
  string : List ℕ → List ℕ → Argument
  value : Bool → ExpressionTree → Argument

abbrev pub text_piece : List ℕ → List Piece
text_piece [] = []
text_piece (c ∷ cs) = Text (c ∷ cs) ∷ []

-- a text on its way: its pieces so far, the path of the last format and what is left of it, and how a value is shown that no format takes
pub record PrintedText : Type 0 where
  pub pieces : List Piece
  pub path : List ℕ
  pub format : List ℕ
  pub default : Form

-- ---- what a string gives

-- pieces, the path of the format, and what is left of it
pub record Taken : Type 0 where
  pub pieces : List Piece
  pub path : List ℕ
  pub format : List ℕ

-- a string is shown by `%s` alone
abbrev pub string_shown : List ℕ → FormatFront → Width → Notation → List ℕ → Option Taken
string_shown path front width Letters letters =
    Some (record { pieces = text_piece front.letters ++ text_piece (letters_in width letters); path = path; format = front.rest })
string_shown path front width Binary letters = None
string_shown path front width Octal letters = None
string_shown path front width Hexadecimal letters = None
string_shown path front width Decimal letters = None
string_shown path front width Time letters = None
string_shown path front width Character letters = None

-- where no form waits for it, it is a format, with a path of its own
abbrev pub string_by : List ℕ → FormatFront → Option Form → List ℕ → List ℕ → Option Taken
string_by path front None own letters = Some (record { pieces = text_piece front.letters; path = own; format = letters })
string_by path front (Some form) own letters = string_shown path front form.width form.notation letters

abbrev pub string_taken : List ℕ → Option FormatFront → List ℕ → List ℕ → Option Taken
string_taken path None own letters = None
string_taken path (Some front) own letters = string_by path front front.form own letters

-- ---- an expression: it is shown in the next form, or as the task shows what no format takes

abbrev pub value_taken : Form → List ℕ → Option FormatFront → Bool → ExpressionTree → Option Taken
value_taken default path None is_watched e = None
value_taken default path (Some front) is_watched e =
    Some (record { pieces = text_piece front.letters ++ Value (unwrap_or front.form default) is_watched e ∷ []; path = path; format = front.rest })

abbrev pub argument_taken : Form → List ℕ → List ℕ → Argument → Option Taken
argument_taken default path format (string own letters) = string_taken path (front_of path format) own (letters_of Plain letters)
argument_taken default path format (value is_watched e) = value_taken default path (front_of path format) is_watched e

-- ---- all arguments

-- no argument is left for a form
abbrev pub without_form : Option Form → List Piece → Option (List Piece)
without_form None pieces = Some pieces
without_form (Some form) pieces = None

abbrev pub last_pieces : Option FormatFront → Option (List Piece)
last_pieces None = None
last_pieces (Some front) = without_form front.form (text_piece front.letters)

abbrev pub pieces_before : List Piece → Option (List Piece) → Option (List Piece)
pieces_before front None = None
pieces_before front (Some pieces) = Some (front ++ pieces)

abbrev pub pieces_with_taken : Option Taken → Option (List Piece) → Option (List Piece)
pieces_with_taken None later = None
pieces_with_taken (Some taken) later = pieces_before taken.pieces later

abbrev pub format_left : Option Taken → List ℕ
format_left None = []
format_left (Some taken) = taken.format

abbrev pub path_left : Option Taken → List ℕ
path_left None = []
path_left (Some taken) = taken.path

-- the pieces of what is left of a format with this path, and of the arguments after it, from left to right
abbrev pub pieces_by : Form → List ℕ → List ℕ → List Argument → Option (List Piece)
pieces_by default path format [] = last_pieces (front_of path format)
pieces_by default path format (argument ∷ arguments) =
    pieces_with_taken (argument_taken default path format argument)
    (pieces_by default (path_left (argument_taken default path format argument)) (format_left (argument_taken default path format argument)) arguments)

-- `$write` ends no line (17.1.1)
abbrev pub line_end : Bool → List Piece
line_end true = Text (10 ∷ []) ∷ []
line_end false = []

abbrev pub with_line_end : Bool → Option (List Piece) → Option (List Piece)
with_line_end ends None = None
with_line_end ends (Some pieces) = Some (pieces ++ line_end ends)

-- the pieces of a text; none where a format isn't well formed, or has a form without an argument that it can show (E310)
abbrev pub pieces_of : Form → Bool → List Argument → Option (List Piece)
pieces_of default ends arguments = with_line_end ends (pieces_by default [] [] arguments)

-- ---- a text on its way

-- its pieces, where these arguments are all that is still to come
abbrev pub pieces_with : PrintedText → List Argument → Option (List Piece)
pieces_with text arguments = pieces_before text.pieces (pieces_by text.default text.path text.format arguments)

-- with whatever arguments after it, a text has the pieces that it would have had; or, with this argument, none
abbrev pub TakesArgument : PrintedText → Argument → Bool → PrintedText → Type 0
TakesArgument old argument true new = (arguments : List Argument) → pieces_with new arguments ≡ pieces_with old (argument ∷ arguments)
TakesArgument old argument false new = (arguments : List Argument) → pieces_with old (argument ∷ arguments) ≡ None

-- all arguments but those that are left were taken: with them after it, a text has the pieces of all
abbrev pub HasTakenAllBut : PrintedText → List Argument → List Argument → Type 0
HasTakenAllBut text left arguments = pieces_with text left ≡ pieces_by text.default [] [] arguments
