-- *trusted*: Expressions of a design (IEEE 1364-2005, clause 5): trees whose leaves are constants, variables by number, and `$time`.
use Rattle.std.specs.Prelude.{ℕ, Bool}
use Rattle.vwords.specs.declared.operators.UnaryOperator.{UnaryOperator}
use Rattle.vwords.specs.declared.operators.BinaryOperator.{BinaryOperator}
use Rattle.vbits.specs.Vectors.{Vector}
use Rattle.vdesign.specs.declared.expression.Bounds.{Bounds}
use Rattle.vdesign.specs.declared.expression.Constant.{Constant}

pub data ExpressionTree : Type 0 where
  constant : Constant → ExpressionTree
  variable : ℕ → ExpressionTree
  bit : ℕ → ExpressionTree → ExpressionTree  -- name [ index ]
  bit_of : Vector → Bounds → ExpressionTree → ExpressionTree  -- name [ index ], of a parameter
  part : ℕ → Bounds → ExpressionTree  -- name [ left : right ]
  time : ExpressionTree  -- $time
  conversion : Bool → ExpressionTree → ExpressionTree  -- $signed ( operand ), or $unsigned ( operand )
  apply : UnaryOperator → ExpressionTree → ExpressionTree  -- - operand
  combine : BinaryOperator → ExpressionTree → ExpressionTree → ExpressionTree  -- left + right
  conditional : ExpressionTree → ExpressionTree → ExpressionTree → ExpressionTree  -- condition ? when_true : when_false
  joined : ExpressionTree → ExpressionTree → ExpressionTree  -- { left, right }
  repeated : ℕ → ExpressionTree → ExpressionTree  -- { count { operand } }
