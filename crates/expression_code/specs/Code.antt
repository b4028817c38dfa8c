-- *internal*: Code of an expression, in which sizes and signs are settled: what it is, and its value, which asks for none. It is brought
-- to a size and a sign only where it says so.
use Rattle.std.specs.Prelude.{ℕ, nat_le, nat_lt, if◌then◌else◌, ◌&&◌, List, length, slice_get, unwrap_or}
use Rattle.vbits.specs.declared.bit4.Bit4.TheVariants.{X}
use Rattle.vbits.specs.Vectors.{Vector, filled, of_number, resize, select, truth}
use Rattle.vvalue.specs.declared.operand_rule.OperandRule.{OperandRule}
use Rattle.vvalue.specs.declared.operand_rule.OperandRule.TheVariants.{ContextDetermined, MaxSized, SelfDetermined, LeftContextDetermined}
use Rattle.vvalue.specs.Value.{fitted_value, unary_value, binary_value, chosen_value, indexed_bit, part_of, part_size, joined_value, repeated_value}
use Rattle.expression_code.specs.declared.operation.Leaf.{Leaf}
use Rattle.expression_code.specs.declared.operation.Leaf.TheVariants.{Number, Load, Extend, Time, Part, Slice}
use Rattle.expression_code.specs.declared.operation.UnaryStep.{UnaryStep}
use Rattle.expression_code.specs.declared.operation.UnaryStep.TheVariants.{Bit, BitOf, Fit, Apply, WithNumber, WithVariable, Repeat}
use Rattle.expression_code.specs.declared.operation.BinaryStep.{BinaryStep}
use Rattle.expression_code.specs.declared.operation.BinaryStep.TheVariants.{Combine, Join}

pub data CodeTree : Type 0 where
  leaf : Leaf → CodeTree
  unary : UnaryStep → CodeTree → CodeTree
  binary : BinaryStep → CodeTree → CodeTree → CodeTree
  choose : CodeTree → CodeTree → CodeTree → CodeTree  -- condition ? when_true : when_false

-- the value of the variable of this number; x, one bit wide, where there is none
abbrev pub value_in : List Vector → ℕ → Vector
value_in values n = unwrap_or (slice_get values n) (filled 1 X)

-- the letters between two places, both with them; in a compiled expression the value has them
abbrev pub slice_value : Vector → ℕ → ℕ → Vector
slice_value v high low = if nat_le low high && nat_lt high (length v.letters) then select v high low else v

abbrev pub leaf_value : List Vector → ℕ → Leaf → Vector
leaf_value values moment (Number v) = v
leaf_value values moment (Load n) = value_in values n
leaf_value values moment (Extend n here) = fitted_value (value_in values n) here
leaf_value values moment Time = of_number 64 moment
leaf_value values moment (Part n bounds part) = part_of (value_in values n) bounds part (part_size part)
leaf_value values moment (Slice n high low) = slice_value (value_in values n) high low

-- a value with as many letters as another; where sizes are settled it has them
abbrev pub at_size : Vector → Vector → Vector
at_size v w = resize w (length v.letters)

-- the right operand, at the size of the left one where the operator's operands share one
abbrev pub right_at_size : OperandRule → Vector → Vector → Vector
right_at_size (ContextDetermined operator) v w = at_size v w
right_at_size (MaxSized operator) v w = at_size v w
right_at_size (SelfDetermined operator) v w = w
right_at_size (LeftContextDetermined operator) v w = w

abbrev pub operator_value : OperandRule → Vector → Vector → Vector
operator_value by v w = binary_value by v (right_at_size by v w)

abbrev pub unary_step_value : List Vector → UnaryStep → Vector → Vector
unary_step_value values (Bit n bounds) v = indexed_bit (value_in values n) bounds v
unary_step_value values (BitOf w bounds) v = indexed_bit w bounds v
unary_step_value values (Fit here) v = fitted_value v here
unary_step_value values (Apply by) v = unary_value by v
unary_step_value values (WithNumber by w) v = operator_value by v w
unary_step_value values (WithVariable by n) v = operator_value by v (value_in values n)
unary_step_value values (Repeat count) v = repeated_value count v

abbrev pub binary_step_value : BinaryStep → Vector → Vector → Vector
binary_step_value (Combine by) v w = operator_value by v w
binary_step_value Join v w = joined_value v w

-- the value, by the values of the variables and the time as `$time` tells it
abbrev pub code_value : List Vector → ℕ → CodeTree → Vector
code_value values moment (leaf what) = leaf_value values moment what
code_value values moment (unary step o) = unary_step_value values step (code_value values moment o)
code_value values moment (binary step left right) = binary_step_value step (code_value values moment left) (code_value values moment right)
code_value values moment (choose condition when_true when_false) =
    let v = code_value values moment when_true in
    chosen_value (truth (code_value values moment condition)) v (at_size v (code_value values moment when_false))
