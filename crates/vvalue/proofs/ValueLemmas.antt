-- The value of a node whose operands' values are known.
use Rattle.std.proofs.Common.{◌≡◌, ℕ, Bool, length, ap, ◌∙◌}
use Rattle.std.proofs.lemmas.List.{length-replicate}
use Rattle.vbits.specs.declared.bit4.Bit4.{Bit4}
use Rattle.vbits.specs.declared.bit4.Bit4.TheVariants.{X}
use Rattle.vbits.specs.Vectors.{Vector, filled, with_sign, truth}
use Rattle.vwords.specs.declared.operators.UnaryOperator.{UnaryOperator}
use Rattle.vwords.specs.declared.operators.BinaryOperator.{BinaryOperator}
use Rattle.vdesign.specs.declared.expression.Bounds.{Bounds}
use Rattle.vdesign.specs.Expressions.{ExpressionTree, bit, bit_of, conversion, apply, combine, conditional, joined, repeated}
use Rattle.vvalue.specs.declared.size_and_sign.SizeAndSign.{SizeAndSign}
use Rattle.vvalue.specs.declared.operand_rule.OperandRule.{OperandRule}
use Rattle.vvalue.specs.declared.operand_rule.UnaryOperandRule.{UnaryOperandRule}
use Rattle.vvalue.specs.OperandRules.{operand_rule, unary_operand_rule}
use Rattle.vvalue.specs.Value.{Environment, self_determined, fitted_value, chosen_value, unary_size_and_sign, left_size_and_sign, right_size_and_sign, unary_value, binary_value, bit_value, indexed_bit, joined_value, repeated_value, value_of}

pub filled_length : (v : Vector) (here : SizeAndSign) → v ≡ filled here.size X → length v.letters ≡ here.size
unfolding filled
filled_length v here is = ap (λ (w : Vector). length w.letters) is ∙ length-replicate here.size X

pub conversion_is : (now : Environment) (signed : Bool) (operand : ExpressionTree) (here there : SizeAndSign)
    (value marked whole : Vector) →
    whole ≡ fitted_value marked here → marked ≡ with_sign value signed → value ≡ value_of now operand there → there ≡ self_determined now operand →
    whole ≡ value_of now (conversion signed operand) here
conversion_is now signed operand here there value marked whole is marks of stands =
    is ∙ ap (λ v. fitted_value v here) (marks ∙ ap (λ v. with_sign v signed) (of ∙ ap (value_of now operand) stands))

pub apply_is : (now : Environment) (operator : UnaryOperator) (by : UnaryOperandRule) (operand : ExpressionTree) (here there : SizeAndSign)
    (value made whole : Vector) →
    whole ≡ fitted_value made here → made ≡ unary_value by value → value ≡ value_of now operand there →
    there ≡ unary_size_and_sign by (self_determined now operand) here → by ≡ unary_operand_rule operator →
    whole ≡ value_of now (apply operator operand) here
apply_is now operator by operand here there value made whole is makes of stands same =
    is ∙ ap (λ v. fitted_value v here) (makes ∙ ap (unary_value by) (of ∙ ap (value_of now operand) stands)
    ∙ ap (λ m. unary_value m (value_of now operand (unary_size_and_sign m (self_determined now operand) here))) same)

pub combine_is : (now : Environment) (operator : BinaryOperator) (by : OperandRule) (left right : ExpressionTree) (here first second : SizeAndSign)
    (a b made whole : Vector) →
    whole ≡ fitted_value made here → made ≡ binary_value by a b → a ≡ value_of now left first → b ≡ value_of now right second →
    first ≡ left_size_and_sign by (self_determined now left) (self_determined now right) here → second ≡ right_size_and_sign by (self_determined now left) (self_determined now right) here →
    by ≡ operand_rule operator → whole ≡ value_of now (combine operator left right) here
combine_is now operator by left right here first second a b made whole is makes one other stands stands_too same =
    is ∙ ap (λ v. fitted_value v here)
    (makes ∙ ap (λ v. binary_value by v b) (one ∙ ap (value_of now left) stands)
    ∙ ap (binary_value by (value_of now left (left_size_and_sign by (self_determined now left) (self_determined now right) here))) (other ∙ ap (value_of now right) stands_too)
    ∙ ap (λ m. binary_value m (value_of now left (left_size_and_sign m (self_determined now left) (self_determined now right) here))
    (value_of now right (right_size_and_sign m (self_determined now left) (self_determined now right) here))) same)

pub conditional_is : (now : Environment) (condition when_true when_false : ExpressionTree) (here there : SizeAndSign)
    (test a b made whole : Vector) (letter : Bit4) →
    whole ≡ fitted_value made here → made ≡ chosen_value letter a b → letter ≡ truth test →
    test ≡ value_of now condition there → there ≡ self_determined now condition →
    a ≡ value_of now when_true here → b ≡ value_of now when_false here →
    whole ≡ value_of now (conditional condition when_true when_false) here
conditional_is now condition when_true when_false here there test a b made whole letter is makes tells of stands one other =
    is ∙ ap (λ v. fitted_value v here)
    (makes ∙ ap (λ l. chosen_value l a b) (tells ∙ ap truth (of ∙ ap (value_of now condition) stands))
    ∙ ap (λ v. chosen_value (truth (value_of now condition (self_determined now condition))) v b) one
    ∙ ap (chosen_value (truth (value_of now condition (self_determined now condition))) (value_of now when_true here)) other)

pub bit_is : (now : Environment) (n : ℕ) (index : ExpressionTree) (here there : SizeAndSign) (value made whole : Vector) →
    whole ≡ fitted_value made here → made ≡ bit_value now n value → value ≡ value_of now index there → there ≡ self_determined now index →
    whole ≡ value_of now (bit n index) here
bit_is now n index here there value made whole is makes of stands =
    is ∙ ap (λ v. fitted_value v here) (makes ∙ ap (bit_value now n) (of ∙ ap (value_of now index) stands))

pub bit_of_is : (now : Environment) (v : Vector) (bounds : Bounds) (index : ExpressionTree) (here there : SizeAndSign) (value made whole : Vector) →
    whole ≡ fitted_value made here → made ≡ indexed_bit v bounds value → value ≡ value_of now index there → there ≡ self_determined now index →
    whole ≡ value_of now (bit_of v bounds index) here
bit_of_is now v bounds index here there value made whole is makes of stands =
    is ∙ ap (λ w. fitted_value w here) (makes ∙ ap (indexed_bit v bounds) (of ∙ ap (value_of now index) stands))

pub joined_is : (now : Environment) (left right : ExpressionTree) (here first second : SizeAndSign) (a b made whole : Vector) →
    whole ≡ fitted_value made here → made ≡ joined_value a b → a ≡ value_of now left first → first ≡ self_determined now left →
    b ≡ value_of now right second → second ≡ self_determined now right → whole ≡ value_of now (joined left right) here
joined_is now left right here first second a b made whole is makes one stands other stands_too =
    is ∙ ap (λ v. fitted_value v here)
    (makes ∙ ap (λ v. joined_value v b) (one ∙ ap (value_of now left) stands)
    ∙ ap (joined_value (value_of now left (self_determined now left))) (other ∙ ap (value_of now right) stands_too))

pub repeated_is : (now : Environment) (count : ℕ) (operand : ExpressionTree) (here there : SizeAndSign) (value made whole : Vector) →
    whole ≡ fitted_value made here → made ≡ repeated_value count value → value ≡ value_of now operand there → there ≡ self_determined now operand →
    whole ≡ value_of now (repeated count operand) here
repeated_is now count operand here there value made whole is makes of stands =
    is ∙ ap (λ v. fitted_value v here) (makes ∙ ap (repeated_value count) (of ∙ ap (value_of now operand) stands))
