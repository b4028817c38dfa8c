-- *internal*: The code of an expression in a context (IEEE 1364-2005, 5.4.1, 5.5.1), where the variables are declared so.
use Rattle.std.specs.Prelude.{ℕ, ◌-◌, ◌*◌, ◌==◌, max, min, nat_le, nat_lt, Bool, false, if◌then◌else◌, ◌&&◌, ◌||◌, List, Option, Some}
use Rattle.std.specs.Bool.{beq}
use Rattle.vbits.specs.Vectors.{Vector}
use Rattle.vdesign.specs.Design.{Variable}
use Rattle.vdesign.specs.declared.expression.Constant.{Constant}
use Rattle.vdesign.specs.declared.expression.Bounds.{Bounds}
use Rattle.vdesign.specs.Expressions.{ExpressionTree, constant, variable, bit, bit_of, part, time, conversion, apply, combine, conditional, joined, repeated}
use Rattle.vvalue.specs.declared.size_and_sign.SizeAndSign.{SizeAndSign}
use Rattle.vvalue.specs.declared.operand_rule.OperandRule.{OperandRule}
use Rattle.vvalue.specs.declared.operand_rule.OperandRule.TheVariants.{ContextDetermined, MaxSized, SelfDetermined, LeftContextDetermined}
use Rattle.vvalue.specs.declared.operand_rule.UnaryOperandRule.{UnaryOperandRule}
use Rattle.vvalue.specs.declared.operand_rule.UnaryOperandRule.TheVariants.{InContext, Reduced, LogicallyNegated}
use Rattle.vvalue.specs.OperandRules.{operand_rule, unary_operand_rule}
use Rattle.vvalue.specs.Value.{size_and_sign, self_determined, left_size_and_sign, right_size_and_sign, unary_size_and_sign, extended_value, bounds_of, place_in, part_size}
use Rattle.expression_code.specs.Shapes.{declared}
use Rattle.expression_code.specs.declared.operation.Leaf.{Leaf}
use Rattle.expression_code.specs.declared.operation.Leaf.TheVariants as leaves
use Rattle.expression_code.specs.declared.operation.UnaryStep.TheVariants as steps
use Rattle.expression_code.specs.declared.operation.BinaryStep.TheVariants as pairs
use Rattle.expression_code.specs.declared.right_operand.RightOperand.{RightOperand}
use Rattle.expression_code.specs.declared.right_operand.RightOperand.TheVariants as right_operands
use Rattle.expression_code.specs.Code.{CodeTree, leaf, unary, binary, choose}

-- what an expression is by itself
abbrev pub own : List Variable → ExpressionTree → SizeAndSign
own variables e = self_determined (declared variables) e

abbrev pub is_same_context : SizeAndSign → SizeAndSign → Bool
is_same_context a b = (a.size == b.size) && beq a.signed b.signed

-- what has one size and sign where another is asked for: brought to that one, if it is another
abbrev pub fitted_code : SizeAndSign → SizeAndSign → CodeTree → CodeTree
fitted_code has here code = if is_same_context has here then code else unary (steps.Fit here) code

abbrev pub one_bit : SizeAndSign
one_bit = size_and_sign 1 false

-- what the result of an operator has in this context, when its operands have what the operator gives them
abbrev pub binary_result : OperandRule → SizeAndSign → SizeAndSign
binary_result (ContextDetermined operator) here = here
binary_result (MaxSized operator) here = one_bit
binary_result (SelfDetermined operator) here = one_bit
binary_result (LeftContextDetermined operator) here = here

abbrev pub unary_result : UnaryOperandRule → SizeAndSign → SizeAndSign
unary_result (InContext operator) here = here
unary_result (Reduced operator) here = one_bit
unary_result LogicallyNegated here = one_bit

abbrev pub variable_code : ℕ → SizeAndSign → SizeAndSign → CodeTree
variable_code n has here = if is_same_context has here then leaf (leaves.Load n) else leaf (leaves.Extend n here)

-- 3.5.1, 5.5.2: a number in a context; one that spreads is extended by its leftmost letter
abbrev pub number_value : Constant → SizeAndSign → Vector
number_value c here = extended_value c.value (c.spreads || here.signed) here

-- a right operand that goes into its operator: a number, or a variable as it is
abbrev pub right_operand : List Variable → ExpressionTree → SizeAndSign → RightOperand
right_operand variables (constant c) here = right_operands.Number (number_value c here)
right_operand variables (variable n) here =
    if is_same_context (own variables (variable n)) here then right_operands.Variable n else right_operands.Computed
right_operand variables _ here = right_operands.Computed

abbrev pub binary_code : OperandRule → RightOperand → CodeTree → CodeTree → CodeTree
binary_code by (right_operands.Number v) left right = unary (steps.WithNumber by v) left
binary_code by (right_operands.Variable n) left right = unary (steps.WithVariable by n) left
binary_code by right_operands.Computed left right = binary (pairs.Combine by) left right

-- 5.2.1: a part of a variable of so many bits: a slice of its letters, where all its bits are the variable's and go the same way
abbrev pub slice_or_part : ℕ → ℕ → Bounds → Bounds → Option ℕ → Option ℕ → Leaf
slice_or_part n count bounds selected (Some high) (Some low) =
    if nat_le low high && (nat_lt high count && nat_lt (high - low) 64) then leaves.Slice n high low else leaves.Part n bounds selected
slice_or_part n count bounds selected _ _ = leaves.Part n bounds selected

abbrev pub part_leaf : ℕ → ℕ → Bounds → Bounds → Leaf
part_leaf n count bounds selected = slice_or_part n count bounds selected (place_in bounds selected.left) (place_in bounds selected.right)

-- `{1{operand}}` has the letters of its operand
abbrev pub repeated_code : ℕ → SizeAndSign → SizeAndSign → CodeTree → CodeTree
repeated_code count has here code =
    if nat_le count 1 then fitted_code has here code
    else fitted_code (size_and_sign (min 64 (max 1 count * has.size)) false) here (unary (steps.Repeat count) code)

-- the code in this context
abbrev pub code_of : List Variable → ExpressionTree → SizeAndSign → CodeTree
code_of variables (constant c) here = leaf (leaves.Number (number_value c here))
code_of variables (variable n) here = variable_code n (own variables (variable n)) here
code_of variables (bit n index) here =
    fitted_code one_bit here (unary (steps.Bit n (bounds_of (declared variables) n)) (code_of variables index (own variables index)))
code_of variables (bit_of v bounds index) here = fitted_code one_bit here (unary (steps.BitOf v bounds) (code_of variables index (own variables index)))
code_of variables (part n bounds) here =
    fitted_code (size_and_sign (part_size bounds) false) here (leaf (part_leaf n (own variables (variable n)).size (bounds_of (declared variables) n) bounds))
code_of variables time here = fitted_code (size_and_sign 64 false) here (leaf leaves.Time)
code_of variables (conversion signed o) here = fitted_code (own variables o) here (code_of variables o (own variables o))
code_of variables (apply operator o) here =
    let by = unary_operand_rule operator in
    fitted_code (unary_result by here) here (unary (steps.Apply by) (code_of variables o (unary_size_and_sign by (own variables o) here)))
code_of variables (combine operator left right) here =
    let by = operand_rule operator in
    let second = right_size_and_sign by (own variables left) (own variables right) here in
    fitted_code (binary_result by here) here
    (binary_code by (right_operand variables right second)
    (code_of variables left (left_size_and_sign by (own variables left) (own variables right) here)) (code_of variables right second))
code_of variables (conditional condition when_true when_false) here =
    choose (code_of variables condition (own variables condition)) (code_of variables when_true here) (code_of variables when_false here)
code_of variables (joined left right) here =
    fitted_code (own variables (joined left right)) here
    (binary pairs.Join (code_of variables left (own variables left)) (code_of variables right (own variables right)))
code_of variables (repeated count o) here = repeated_code count (own variables o) here (code_of variables o (own variables o))

-- ---- what actions ask of an expression

-- by itself
abbrev pub self_determined_code : List Variable → ExpressionTree → CodeTree
self_determined_code variables e = code_of variables e (own variables e)

-- 5.4.1, 5.5.3: at the larger of both sizes, then cut to the size of the left side
abbrev pub right_side_code : List Variable → ℕ → ExpressionTree → CodeTree
right_side_code variables count e =
    let has = own variables e in
    let larger = size_and_sign (max count has.size) has.signed in
    fitted_code larger (size_and_sign count has.signed) (code_of variables e larger)
