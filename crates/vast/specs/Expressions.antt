-- *trusted*: Expressions of the whole profile (IEEE 1364-2005, clause 5 and A.8, narrowed to this product's profile): their trees, the
-- words that these spell, how deep they nest, and which stand as the grammar lets them.
use Rattle.std.specs.Prelude.{◌≡◌, ℕ, ◌+◌, max, nat_le, nat_lt, Bool, true, false, IsTrue, ◌&&◌, if◌then◌else◌, List, [], ◌∷◌, ◌++◌, codes}
use Rattle.vwords.specs.Words.{Text, is_name, is_number, is_time}
use Rattle.vwords.specs.declared.operators.UnaryOperator.{UnaryOperator}
use Rattle.vwords.specs.declared.operators.UnaryOperator.TheVariants as unary
use Rattle.vwords.specs.declared.operators.BinaryOperator.{BinaryOperator}
use Rattle.vwords.specs.declared.operators.BinaryOperator.TheVariants as binary

mutual
  -- of words that are told so
  pub data ExpressionOf (W : Type 0) : Type 0 where
    number : W → ExpressionOf W
    name : W → ExpressionOf W
    time : W → ExpressionOf W  -- $time
    bit : W → ExpressionOf W → ExpressionOf W  -- name [ index ]
    part : W → ExpressionOf W → ExpressionOf W → ExpressionOf W  -- name [ left : right ]
    parentheses : ExpressionOf W → ExpressionOf W  -- ( inner )
    concatenation : ExpressionsOf W → ExpressionOf W  -- { part, .. }
    replication : ExpressionOf W → ExpressionsOf W → ExpressionOf W  -- { count { part, .. } }
    conversion : Bool → ExpressionOf W → ExpressionOf W  -- $signed ( operand ), or $unsigned ( operand )
    apply : UnaryOperator → ExpressionOf W → ExpressionOf W  -- - operand
    combine : BinaryOperator → ExpressionOf W → ExpressionOf W → ExpressionOf W  -- left + right
    conditional : ExpressionOf W → ExpressionOf W → ExpressionOf W → ExpressionOf W  -- condition ? when_true : when_false

  pub data ExpressionsOf (W : Type 0) : Type 0 where
    none : ExpressionsOf W
    first : ExpressionOf W → ExpressionsOf W → ExpressionsOf W

-- of words that are told by their letters alone
abbrev pub ExpressionTree : Type 0
ExpressionTree = ExpressionOf Text

abbrev pub ExpressionTrees : Type 0
ExpressionTrees = ExpressionsOf Text

-- A.8.6: what each operator is written as

abbrev pub unary_word : UnaryOperator → Text
unary_word unary.Plus = codes "+"
unary_word unary.Minus = codes "-"
unary_word unary.Not = codes "!"
unary_word unary.Invert = codes "~"
unary_word unary.And = codes "&"
unary_word unary.Nand = codes "~&"
unary_word unary.Or = codes "|"
unary_word unary.Nor = codes "~|"
unary_word unary.Xor = codes "^"
unary_word unary.Xnor = codes "~^"
unary_word unary.XorNot = codes "^~"

abbrev pub binary_word : BinaryOperator → Text
binary_word binary.Times = codes "*"
binary_word binary.Divide = codes "/"
binary_word binary.Remainder = codes "%"
binary_word binary.Plus = codes "+"
binary_word binary.Minus = codes "-"
binary_word binary.ShiftLeft = codes "<<"
binary_word binary.ShiftRight = codes ">>"
binary_word binary.ShiftLeftSigned = codes "<<<"
binary_word binary.ShiftRightSigned = codes ">>>"
binary_word binary.Less = codes "<"
binary_word binary.LessOrEqual = codes "<="
binary_word binary.Greater = codes ">"
binary_word binary.GreaterOrEqual = codes ">="
binary_word binary.Equal = codes "=="
binary_word binary.NotEqual = codes "!="
binary_word binary.CaseEqual = codes "==="
binary_word binary.CaseNotEqual = codes "!=="
binary_word binary.And = codes "&"
binary_word binary.Xor = codes "^"
binary_word binary.Xnor = codes "~^"
binary_word binary.XorNot = codes "^~"
binary_word binary.Or = codes "|"
binary_word binary.LogicalAnd = codes "&&"
binary_word binary.LogicalOr = codes "||"

-- 17.8
abbrev pub conversion_word : Bool → Text
conversion_word signed = if signed then codes "$signed" else codes "$unsigned"

-- The words of a tree

abbrev mutual
  pub spell_expression : ExpressionTree → List Text
  spell_expression (number digits) = digits ∷ []
  spell_expression (name letters) = letters ∷ []
  spell_expression (time word) = word ∷ []
  spell_expression (bit letters index) = letters ∷ codes "[" ∷ (spell_expression index ++ codes "]" ∷ [])
  spell_expression (part letters left right) =
      letters ∷ codes "[" ∷ (spell_expression left ++ codes ":" ∷ (spell_expression right ++ codes "]" ∷ []))
  spell_expression (parentheses inner) = codes "(" ∷ (spell_expression inner ++ codes ")" ∷ [])
  spell_expression (concatenation parts) = codes "{" ∷ (spell_parts parts ++ codes "}" ∷ [])
  spell_expression (replication count parts) =
      codes "{" ∷ (spell_expression count ++ codes "{" ∷ (spell_parts parts ++ codes "}" ∷ codes "}" ∷ []))
  spell_expression (conversion signed operand) = conversion_word signed ∷ codes "(" ∷ (spell_expression operand ++ codes ")" ∷ [])
  spell_expression (apply operator operand) = unary_word operator ∷ spell_expression operand
  spell_expression (combine operator left right) = spell_expression left ++ binary_word operator ∷ spell_expression right
  spell_expression (conditional condition when_true when_false) =
      spell_expression condition ++ codes "?" ∷ (spell_expression when_true ++ codes ":" ∷ spell_expression when_false)

  -- with commas between them
  pub spell_parts : ExpressionTrees → List Text
  spell_parts none = []
  spell_parts (first one more) = spell_expression one ++ spell_more_parts more

  -- a comma before each
  pub spell_more_parts : ExpressionTrees → List Text
  spell_more_parts none = []
  spell_more_parts (first one more) = codes "," ∷ (spell_expression one ++ spell_more_parts more)

-- Depth: a leaf counts 1, and each operator, select, parenthesis, concatenation, replication and conversion round it 1 more.

abbrev mutual
  pub depth : ExpressionTree → ℕ
  depth (number digits) = 1
  depth (name letters) = 1
  depth (time word) = 1
  depth (bit letters index) = 1 + depth index
  depth (part letters left right) = 1 + max (depth left) (depth right)
  depth (parentheses inner) = 1 + depth inner
  depth (concatenation parts) = 1 + greatest_depth parts
  depth (replication count parts) = 1 + max (depth count) (greatest_depth parts)
  depth (conversion signed operand) = 1 + depth operand
  depth (apply operator operand) = 1 + depth operand
  depth (combine operator left right) = 1 + max (depth left) (depth right)
  depth (conditional condition when_true when_false) = 1 + max (depth condition) (max (depth when_true) (depth when_false))

  pub greatest_depth : ExpressionTrees → ℕ
  greatest_depth none = 0
  greatest_depth (first one more) = max (depth one) (greatest_depth more)

-- 5.1.2, table 5-4: how tightly an operator binds, the tightest highest
abbrev pub rank : BinaryOperator → ℕ
rank binary.Times = 10
rank binary.Divide = 10
rank binary.Remainder = 10
rank binary.Plus = 9
rank binary.Minus = 9
rank binary.ShiftLeft = 8
rank binary.ShiftRight = 8
rank binary.ShiftLeftSigned = 8
rank binary.ShiftRightSigned = 8
rank binary.Less = 7
rank binary.LessOrEqual = 7
rank binary.Greater = 7
rank binary.GreaterOrEqual = 7
rank binary.Equal = 6
rank binary.NotEqual = 6
rank binary.CaseEqual = 6
rank binary.CaseNotEqual = 6
rank binary.And = 5
rank binary.Xor = 4
rank binary.Xnor = 4
rank binary.XorNot = 4
rank binary.Or = 3
rank binary.LogicalAnd = 2
rank binary.LogicalOr = 1

-- above every binary operator
abbrev pub unary_rank : ℕ
unary_rank = 11

-- how tightly a tree holds together: a conditional loosest, what isn't made by a binary operator tightest
abbrev pub rank_of : ExpressionTree → ℕ
rank_of (conditional condition when_true when_false) = 0
rank_of (combine operator left right) = rank operator
rank_of (number digits) = unary_rank
rank_of (name letters) = unary_rank
rank_of (time word) = unary_rank
rank_of (bit letters index) = unary_rank
rank_of (part letters left right) = unary_rank
rank_of (parentheses inner) = unary_rank
rank_of (concatenation parts) = unary_rank
rank_of (replication count parts) = unary_rank
rank_of (conversion signed operand) = unary_rank
rank_of (apply operator operand) = unary_rank

-- What stands as the grammar lets it (5.1.2): binary operators group to the left, so that an operand on the left holds
-- at least as tightly, one on the right more tightly; a conditional groups to the right.

abbrev pub is_some_part : ExpressionTrees → Bool
is_some_part none = false
is_some_part (first one more) = true

abbrev mutual
  pub fits_expression : ExpressionTree → Bool
  fits_expression (number digits) = is_number digits
  fits_expression (name letters) = is_name letters
  fits_expression (time word) = is_time word
  fits_expression (bit letters index) = is_name letters && fits_expression index
  fits_expression (part letters left right) = is_name letters && fits_expression left && fits_expression right
  fits_expression (parentheses inner) = fits_expression inner
  fits_expression (concatenation parts) = is_some_part parts && fits_parts parts
  fits_expression (replication count parts) = fits_expression count && is_some_part parts && fits_parts parts
  fits_expression (conversion signed operand) = fits_expression operand
  fits_expression (apply operator operand) = nat_le unary_rank (rank_of operand) && fits_expression operand
  fits_expression (combine operator left right) =
      nat_le (rank operator) (rank_of left) && nat_lt (rank operator) (rank_of right) && fits_expression left && fits_expression right
  fits_expression (conditional condition when_true when_false) =
      nat_lt 0 (rank_of condition) && fits_expression condition && fits_expression when_true && fits_expression when_false

  pub fits_parts : ExpressionTrees → Bool
  fits_parts none = true
  fits_parts (first one more) = fits_expression one && fits_parts more

-- the words are those of the tree, which stands as the grammar lets it, however deep it nests
pub record DerivesExpression (words : List Text) (tree : ExpressionTree) : Type 0 where
  pub spelled : spell_expression tree ≡ words
  pub fitting : IsTrue (fits_expression tree)
