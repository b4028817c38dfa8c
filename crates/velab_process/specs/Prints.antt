-- *trusted*: Print tasks of the text, their names resolved and their formats read (IEEE 1364-2005, 17.1).
use Rattle.std.specs.Prelude.{◌-◌, Bool, true, false, if◌then◌else◌, List, [], ◌∷◌, length, take, drop, codes, Result, Ok}
use Rattle.vwords.specs.Words.{Text}
use Rattle.vast.specs.NumberedExpressions as text
use Rattle.vast.specs.NumberedStatements.{ArgumentTree, quoted, printed, left_out}
use Rattle.vast.specs.declared.statement.Base.{Base}
use Rattle.vast.specs.declared.statement.Base.TheVariants as bases
use Rattle.vast.specs.declared.statement.Printing.{Printing}
use Rattle.vast.specs.declared.statement.Printing.TheVariants as printing
use Rattle.vdesign.specs.declared.print.When.{When}
use Rattle.vdesign.specs.declared.print.When.TheVariants.{Now, AtSlotEnd, AtChange}
use Rattle.vdesign.specs.declared.print.Form.{Form}
use Rattle.vdesign.specs.declared.print.Notation.{Notation}
use Rattle.vdesign.specs.declared.print.Notation.TheVariants.{Binary, Octal, Hexadecimal, Decimal}
use Rattle.vdesign.specs.declared.print.Width.TheVariants.{Natural}
use Rattle.vdesign.specs.declared.print.Piece.{Piece}
use Rattle.format_text.specs.Pieces.{Argument, string, value, pieces_of}
use Rattle.velab_expr.specs.declared.fault.ElabFault.{ElabFault}
use Rattle.velab_expr.specs.declared.fault.Rule.TheVariants.{Kind}
use Rattle.velab_expr.specs.FirstWords.{first_argument}
use Rattle.velab_expr.specs.Answers.{◌>>=◌, value_or_fault}
use Rattle.velab_expr.specs.Scopes.{Scope}
use Rattle.velab_expr.specs.Resolved.{lower_expression}

-- 17.1.1, 17.1.2, 17.1.3
abbrev pub when_of : Printing → When
when_of (printing.Display base) = Now
when_of (printing.Write base) = Now
when_of (printing.Strobe base) = AtSlotEnd
when_of (printing.Monitor base) = AtChange

-- 17.1.1: all but `$write` end a line
abbrev pub ends_line : Printing → Bool
ends_line (printing.Display base) = true
ends_line (printing.Write base) = false
ends_line (printing.Strobe base) = true
ends_line (printing.Monitor base) = true

-- 17.1.1: how a value is shown that no format takes
abbrev pub notation_of : Base → Notation
notation_of bases.Decimal = Decimal
notation_of bases.Binary = Binary
notation_of bases.Octal = Octal
notation_of bases.Hexadecimal = Hexadecimal

abbrev pub base_of : Printing → Base
base_of (printing.Display base) = base
base_of (printing.Write base) = base
base_of (printing.Strobe base) = base
base_of (printing.Monitor base) = base

abbrev pub default_form : Printing → Form
default_form kind = record { notation = notation_of (base_of kind); width = Natural }

-- what stands between the quotes of a string (3.6)
abbrev pub between_quotes : Text → Text
between_quotes letters = take (length letters - 2) (drop 1 letters)

-- 17.1.3: a monitor watches an argument, but `$time` alone, without parentheses round it (own)
abbrev pub is_watched : text.ExpressionTree → Bool
is_watched (text.time word) = false
is_watched _ = true

abbrev pub lower_argument : Scope → ArgumentTree → Result Argument ElabFault
lower_argument scope (quoted word) = Ok (string word.path (between_quotes word.letters))
lower_argument scope (printed tree) = lower_expression scope tree >>= λ e. Ok (value (is_watched tree) e)
-- 17.1.1: a blank is printed in the place of an argument that is left out
lower_argument scope left_out = Ok (string [] (codes " "))

abbrev pub lower_arguments : Scope → List ArgumentTree → Result (List Argument) ElabFault
lower_arguments scope [] = Ok []
lower_arguments scope (one ∷ more) = lower_argument scope one >>= λ argument. lower_arguments scope more >>= λ others. Ok (argument ∷ others)

abbrev pub is_left_out : ArgumentTree → Bool
is_left_out (quoted letters) = false
is_left_out (printed tree) = false
is_left_out left_out = true

-- in empty parentheses there is no argument (own)
abbrev pub arguments_given : List ArgumentTree → List ArgumentTree
arguments_given [] = []
arguments_given (one ∷ []) = if is_left_out one then [] else one ∷ []
arguments_given (one ∷ other ∷ more) = one ∷ other ∷ more

-- the pieces that a task prints, where its formats are right (17.1.1); they are told by the first word of the arguments
abbrev pub lower_line : Scope → Printing → List ArgumentTree → Result (List Piece) ElabFault
lower_line scope kind arguments =
    lower_arguments scope (arguments_given arguments) >>= λ all. value_or_fault (pieces_of (default_form kind) (ends_line kind) all) Kind (first_argument arguments)
