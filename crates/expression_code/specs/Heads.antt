-- *internal*: What is put before the operands' operations when an expression is compiled.
use Rattle.std.specs.Prelude.{◌≡◌, ℕ, ◌*◌, max, min, nat_le, false, if◌then◌else◌, List, [], ◌∷◌, ◌++◌}
use Rattle.vdesign.specs.Design.{Variable}
use Rattle.vdesign.specs.Expressions.{ExpressionTree}
use Rattle.vdesign.specs.Nodes.{nodes_of}
use Rattle.vdesign.specs.declared.expression.Node.{Node}
use Rattle.vdesign.specs.declared.expression.Node.TheVariants.{Constant, Variable as VariableNode}
use Rattle.vvalue.specs.declared.size_and_sign.SizeAndSign.{SizeAndSign}
use Rattle.vvalue.specs.declared.operand_rule.OperandRule.{OperandRule}
use Rattle.vvalue.specs.Value.{size_and_sign}
use Rattle.vdesign.specs.Expressions.{variable}
use Rattle.expression_code.specs.declared.operation.Operation.{Operation}
use Rattle.expression_code.specs.declared.operation.Operation.TheVariants.{Leaf, Unary, Binary}
use Rattle.expression_code.specs.declared.operation.Leaf.TheVariants as leaves
use Rattle.expression_code.specs.declared.operation.UnaryStep.TheVariants as steps
use Rattle.expression_code.specs.declared.operation.BinaryStep.TheVariants as pairs
use Rattle.expression_code.specs.declared.right_operand.RightOperand.{RightOperand}
use Rattle.expression_code.specs.declared.right_operand.RightOperand.TheVariants as right_operands
use Rattle.expression_code.specs.CodeOf.{own, is_same_context, number_value, code_of}
use Rattle.expression_code.specs.Operations.{operations_of}

-- what brings to its context what has another
abbrev pub fit_head : SizeAndSign → SizeAndSign → List Operation
fit_head has here = if is_same_context has here then [] else Unary (steps.Fit here) ∷ []

-- and the operation behind it
abbrev pub fitted_head : SizeAndSign → SizeAndSign → Operation → List Operation
fitted_head has here operation = fit_head has here ++ operation ∷ []

abbrev pub variable_operation : ℕ → SizeAndSign → SizeAndSign → Operation
variable_operation n has here = if is_same_context has here then Leaf (leaves.Load n) else Leaf (leaves.Extend n here)

abbrev pub binary_operation : OperandRule → RightOperand → Operation
binary_operation by (right_operands.Number v) = Unary (steps.WithNumber by v)
binary_operation by (right_operands.Variable n) = Unary (steps.WithVariable by n)
binary_operation by right_operands.Computed = Binary (pairs.Combine by)

-- the operations of a right operand, where it has any
abbrev pub right_operations : RightOperand → List Operation → List Operation
right_operations (right_operands.Number v) operations = []
right_operations (right_operands.Variable n) operations = []
right_operations right_operands.Computed operations = operations

abbrev pub repeated_head : ℕ → SizeAndSign → SizeAndSign → List Operation
repeated_head count has here =
    if nat_le count 1 then fit_head has here
    else fitted_head (size_and_sign (min 64 (max 1 count * has.size)) false) here (Unary (steps.Repeat count))

-- a right operand by its first node
abbrev pub right_operand_at : List Variable → Node → SizeAndSign → RightOperand
right_operand_at variables (Constant c) here = right_operands.Number (number_value c here)
right_operand_at variables (VariableNode n) here =
    if is_same_context (own variables (variable n)) here then right_operands.Variable n else right_operands.Computed
right_operand_at variables _ here = right_operands.Computed

-- the operations of the expression that these nodes begin with were put behind others
pub record IsPut (variables : List Variable) (here : SizeAndSign) (tree : ExpressionTree) (more behind : List Node) (old new : List Operation) : Type 0 where
  pub rest : behind ≡ more
  pub code : new ≡ old ++ operations_of (code_of variables tree here)

abbrev pub IsCompiled : List Variable → SizeAndSign → List Node → List Operation → List Operation → List Node → Type 0
IsCompiled variables here nodes old new behind =
    (tree : ExpressionTree) (more : List Node) → nodes ≡ nodes_of tree ++ more → IsPut variables here tree more behind old new

-- the same of a right operand that may have gone into its operator
pub record IsRightPut (variables : List Variable) (here : SizeAndSign) (operand : RightOperand) (tree : ExpressionTree) (more behind : List Node) (old new : List Operation) : Type 0 where
  pub rest : behind ≡ more
  pub code : new ≡ old ++ right_operations operand (operations_of (code_of variables tree here))

abbrev pub IsRightCompiled : List Variable → SizeAndSign → RightOperand → List Node → List Operation → List Operation → List Node → Type 0
IsRightCompiled variables here operand nodes old new behind =
    (tree : ExpressionTree) (more : List Node) → nodes ≡ nodes_of tree ++ more → IsRightPut variables here operand tree more behind old new
