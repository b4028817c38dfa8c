-- *trusted*: What an expression of the text is lowered to: the expression of a design, or the first fault in it (IEEE 1364-2005, clause
-- 5, 12.7).
use Rattle.std.specs.Prelude.{ℕ, ◌+◌, nat_le, Bool, true, false, not, Option, Some, Result, Ok}
use Rattle.vbits.specs.declared.bit4.Bit4.TheVariants.{X}
use Rattle.vbits.specs.Vectors.{Vector, filled}
use Rattle.vast.specs.NumberedWords.{Word}
use Rattle.vast.specs.NumberedExpressions as text
use Rattle.vdesign.specs.Expressions.{ExpressionTree, constant, variable, bit, bit_of, part, time, conversion, apply, combine, conditional, joined, repeated}
use Rattle.vdesign.specs.declared.expression.Bounds.{Bounds}
use Rattle.vvalue.specs.Value.{part_of, part_size}
use Rattle.vvalue.specs.Flaws.{is_part, flaw_of}
use Rattle.velab_expr.specs.Answers.{◌>>=◌, require, answer_if, value_unless_flawed, value_or}
use Rattle.velab_expr.specs.Literals.{constant_of}
use Rattle.velab_expr.specs.FirstWords.{first_in, first_among}
use Rattle.velab_expr.specs.Scopes.{Scope, lower_name}
use Rattle.velab_expr.specs.Constants.{nothing, checked_constant, part_bounds, count_in}
use Rattle.velab_expr.specs.declared.fault.ElabFault.{ElabFault}
use Rattle.velab_expr.specs.declared.fault.Rule.TheVariants.{Width, Constant}
use Rattle.velab_expr.specs.declared.scope.Operand.{Operand}
use Rattle.velab_expr.specs.declared.scope.Operand.TheVariants.{Variable, Parameter}

-- a value as it is: it isn't extended by its leftmost letter
abbrev pub plain : Vector → ExpressionTree
plain value = constant (record { value = value; spreads = false })

-- a concatenation of nothing: no text of a design has one
abbrev pub no_parts : ExpressionTree
no_parts = plain (filled 1 X)

-- 5.1.14: a part in front of others that are joined already; the last one is unsigned by itself
abbrev pub in_front : ExpressionTree → text.ExpressionTrees → ExpressionTree → ExpressionTree
in_front one text.none others = conversion false one
in_front one (text.first next more) others = joined one others

-- a variable goes by its number, and a parameter stands for its value (4.10)
abbrev pub operand_tree : Operand → ExpressionTree
operand_tree (Variable number) = variable number
operand_tree (Parameter value bounds) = plain value

-- name [ index ]
abbrev pub bit_in : Operand → ExpressionTree → ExpressionTree
bit_in (Variable number) index = bit number index
bit_in (Parameter value bounds) index = bit_of value bounds index

-- name [ left : right ]; the part of a variable is looked at in the finished design
abbrev pub part_in : Operand → Bounds → Word → Result ExpressionTree ElabFault
part_in (Variable number) selection_of name = Ok (part number selection_of)
part_in (Parameter value bounds) selection_of name = require (is_part bounds selection_of) Width (Some name) (plain (part_of value bounds selection_of (part_size selection_of)))

-- how many parts a concatenation has
abbrev pub count_of : text.ExpressionTrees → ℕ
count_of text.none = 0
count_of (text.first one more) = count_of more + 1

-- a vector has at most 64 bits (own), and each part has one at least
abbrev pub check_part_count : text.ExpressionTrees → Result ExpressionTree ElabFault → Result ExpressionTree ElabFault
check_part_count parts whole = answer_if (nat_le (count_of parts) 64) Width (first_among parts) whole

-- the whole, so many times
abbrev pub replicate_by : Vector → Result ExpressionTree ElabFault → Result ExpressionTree ElabFault
replicate_by count whole = whole >>= λ e. Ok (repeated (count_in count) e)

-- An expression of any kind, or one that is to be constant. Bounds of a part and counts are constants in either, and their sizes are right,
-- or this is told by their first word. Parentheses have done their work.
abbrev mutual
  pub lower : Bool → Scope → text.ExpressionTree → Result ExpressionTree ElabFault
  lower fixed scope (text.number digits) = Ok (constant (constant_of digits.letters))
  lower fixed scope (text.name letters) = lower_name fixed scope letters >>= λ operand. Ok (operand_tree operand)
  lower fixed scope (text.time word) = require (not fixed) Constant (Some word) time
  lower fixed scope (text.bit letters index) =
      lower_name fixed scope letters >>= λ operand. lower fixed scope index >>= λ place. Ok (bit_in operand place)
  lower fixed scope (text.part letters left right) =
      lower_name fixed scope letters >>= λ operand.
      (lower true scope left >>= checked_constant (first_in left)) >>= λ high.
      (lower true scope right >>= checked_constant (first_in right)) >>= λ low.
      part_in operand (part_bounds high low) letters
  lower fixed scope (text.parentheses inner) = lower fixed scope inner
  lower fixed scope (text.concatenation parts) = check_part_count parts (lower_parts fixed scope parts)
  lower fixed scope (text.replication count parts) =
      (lower true scope count >>= checked_constant (first_in count)) >>= λ amount. replicate_by amount (check_part_count parts (lower_parts fixed scope parts))
  lower fixed scope (text.conversion signed inner) = lower fixed scope inner >>= λ operand. Ok (conversion signed operand)
  lower fixed scope (text.apply operator inner) = lower fixed scope inner >>= λ operand. Ok (apply operator operand)
  lower fixed scope (text.combine operator left right) =
      lower fixed scope left >>= λ one. lower fixed scope right >>= λ other. Ok (combine operator one other)
  lower fixed scope (text.conditional condition when_true when_false) =
      lower fixed scope condition >>= λ test.
      lower fixed scope when_true >>= λ one.
      lower fixed scope when_false >>= λ other.
      Ok (conditional test one other)

  -- `{a, b, c}` is a in front of `{b, c}`
  pub lower_parts : Bool → Scope → text.ExpressionTrees → Result ExpressionTree ElabFault
  lower_parts fixed scope text.none = Ok no_parts
  lower_parts fixed scope (text.first one more) =
      lower fixed scope one >>= λ front. lower_parts fixed scope more >>= λ others. Ok (in_front front more others)

-- a concatenation
abbrev pub lower_joined : Bool → Scope → text.ExpressionTrees → Result ExpressionTree ElabFault
lower_joined fixed scope parts = check_part_count parts (lower_parts fixed scope parts)

-- an expression of any kind
abbrev pub lower_expression : Scope → text.ExpressionTree → Result ExpressionTree ElabFault
lower_expression scope tree = lower false scope tree

-- a constant, and what it is worth
abbrev pub lower_constant : Scope → text.ExpressionTree → Result ExpressionTree ElabFault
lower_constant scope tree = lower true scope tree >>= λ e. value_unless_flawed (flaw_of nothing e) (first_in tree) e

abbrev pub lower_value : Scope → text.ExpressionTree → Result Vector ElabFault
lower_value scope tree = lower true scope tree >>= checked_constant (first_in tree)

-- the expression, for those who know that there is one
abbrev pub known_expression : Scope → text.ExpressionTree → ExpressionTree
known_expression scope tree = value_or no_parts (lower_expression scope tree)
