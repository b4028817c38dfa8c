-- *trusted*: What an expression is worth (IEEE 1364-2005, 3.5.1, 5.4, 5.5): its own size and sign, and its value at the size and sign of
-- what it stands in.
use Rattle.std.specs.Prelude.{ℕ, zero, suc, ◌+◌, ◌-◌, ◌*◌, ◌/◌, max, min, nat_le, Bool, false, if◌then◌else◌, ◌&&◌, ◌||◌, List, [], ◌∷◌, ◌++◌, length, take, slice_get, Option, None, Some, unwrap_or, option_and_then}
use Rattle.vbits.specs.declared.bit4.Bit4.{Bit4}
use Rattle.vbits.specs.declared.bit4.Bit4.TheVariants.{Zero, One, X, Z}
use Rattle.vbits.specs.Letters.{not_letter, and_letter, or_letter, is_one}
use Rattle.vbits.specs.Numbers.{number}
use Rattle.vbits.specs.Vectors as vectors
use Rattle.vbits.specs.Vectors.{Vector, filled, single, of_number, resize, with_sign, sign_letter, concat, truth, complement}
use Rattle.vvalue.specs.declared.operand_rule.Shared.{Shared}
use Rattle.vvalue.specs.declared.operand_rule.Shared.TheVariants as shared
use Rattle.vvalue.specs.declared.operand_rule.Compared.{Compared}
use Rattle.vvalue.specs.declared.operand_rule.Compared.TheVariants as compared
use Rattle.vvalue.specs.declared.operand_rule.Logical.{Logical}
use Rattle.vvalue.specs.declared.operand_rule.Logical.TheVariants as logical
use Rattle.vvalue.specs.declared.operand_rule.Shift.{Shift}
use Rattle.vvalue.specs.declared.operand_rule.Shift.TheVariants as shift
use Rattle.vvalue.specs.declared.operand_rule.OperandRule.{OperandRule}
use Rattle.vvalue.specs.declared.operand_rule.OperandRule.TheVariants.{ContextDetermined, MaxSized, SelfDetermined, LeftContextDetermined}
use Rattle.vvalue.specs.declared.size_and_sign.SizeAndSign.{SizeAndSign}
use Rattle.vvalue.specs.declared.operand_rule.Sign.{Sign}
use Rattle.vvalue.specs.declared.operand_rule.Sign.TheVariants as signs
use Rattle.vvalue.specs.declared.operand_rule.UnaryOperandRule.{UnaryOperandRule}
use Rattle.vvalue.specs.declared.operand_rule.UnaryOperandRule.TheVariants.{InContext, Reduced, LogicallyNegated}
use Rattle.vvalue.specs.OperandRules.{operand_rule, unary_operand_rule}
use Rattle.vdesign.specs.Design.{Variable}
use Rattle.vdesign.specs.declared.expression.Bounds.{Bounds}
use Rattle.vdesign.specs.Expressions.{ExpressionTree, constant, variable, bit, bit_of, part, time, conversion, apply, combine, conditional, joined, repeated}

-- What is known when an expression is evaluated: the values of the variables, by number, how these are declared, the time in units
-- in which delays are written, as `$time` tells it (17.7.1), and how many units of the precision make one of these (19.8).
pub record Environment : Type 0 where
  pub values : List Vector
  pub variables : List Variable
  pub time : ℕ
  pub factor : ℕ

-- 17.7.1: a time in units in which delays are written. Every time of a run is a multiple of its unit, so nothing is rounded
abbrev pub written_time : ℕ → ℕ → ℕ
written_time moment zero = zero
written_time moment (suc n) = moment / suc n

-- the value of the variable of this number; x, one bit wide, where there is none
abbrev pub value_at : Environment → ℕ → Vector
value_at now n = unwrap_or (slice_get now.values n) (filled 1 X)

-- ---- the size and the sign of an expression by itself

abbrev pub size_by : OperandRule → ℕ → ℕ → ℕ
size_by (ContextDetermined operator) left right = max left right
size_by (MaxSized operator) left right = 1
size_by (SelfDetermined operator) left right = 1
size_by (LeftContextDetermined operator) left right = left

abbrev pub unary_size : UnaryOperandRule → ℕ → ℕ
unary_size (InContext operator) size = size
unary_size (Reduced operator) size = 1
unary_size LogicallyNegated size = 1

-- 5.2.1: how many bits a part has. More than 64 are no design's (E306): where they stand all the same, only 64 are looked at
abbrev pub part_size : Bounds → ℕ
part_size bounds = min 64 (max bounds.left bounds.right - min bounds.left bounds.right + 1)

-- 5.4.1, table 5-22: how many bits an expression has by itself. No concatenation of a design has more than 64, and none is repeated
-- 0 times (E306)
abbrev pub size_of : Environment → ExpressionTree → ℕ
size_of now (constant c) = length c.value.letters
size_of now (variable n) = length (value_at now n).letters
size_of now (bit n index) = 1
size_of now (bit_of v bounds index) = 1
size_of now (part n bounds) = part_size bounds
size_of now time = 64
size_of now (conversion signed o) = size_of now o
size_of now (apply operator o) = unary_size (unary_operand_rule operator) (size_of now o)
size_of now (combine operator left right) = size_by (operand_rule operator) (size_of now left) (size_of now right)
size_of now (conditional condition when_true when_false) = max (size_of now when_true) (size_of now when_false)
size_of now (joined left right) = min 64 (size_of now left + size_of now right)
size_of now (repeated count o) = min 64 (max 1 count * size_of now o)

abbrev pub sign_by : OperandRule → Bool → Bool → Bool
sign_by (ContextDetermined operator) left right = left && right
sign_by (MaxSized operator) left right = false
sign_by (SelfDetermined operator) left right = false
sign_by (LeftContextDetermined operator) left right = left

abbrev pub unary_sign : UnaryOperandRule → Bool → Bool
unary_sign (InContext operator) sign = sign
unary_sign (Reduced operator) sign = false
unary_sign LogicallyNegated sign = false

-- 5.5.1: whether an expression by itself is signed
abbrev pub is_signed : Environment → ExpressionTree → Bool
is_signed now (constant c) = c.value.signed
is_signed now (variable n) = (value_at now n).signed
is_signed now (bit n index) = false
is_signed now (bit_of v bounds index) = false
is_signed now (part n bounds) = false
is_signed now time = false
is_signed now (conversion signed o) = signed
is_signed now (apply operator o) = unary_sign (unary_operand_rule operator) (is_signed now o)
is_signed now (combine operator left right) = sign_by (operand_rule operator) (is_signed now left) (is_signed now right)
is_signed now (conditional condition when_true when_false) = is_signed now when_true && is_signed now when_false
is_signed now (joined left right) = false
is_signed now (repeated count o) = false

-- ---- bits and parts of a variable (5.2.1)

-- the numbers of its leftmost and of its rightmost bit, as declared; without a range, as of an `integer` (4.8), the rightmost is 0
abbrev pub whole_bounds : Vector → Bounds
whole_bounds v = record { left = length v.letters - 1; right = 0 }

abbrev pub bounds_of : Environment → ℕ → Bounds
bounds_of now n = unwrap_or (option_and_then (λ v. v.bounds) (slice_get now.variables n)) (whole_bounds (value_at now n))

-- how far the bit of this number stands from the rightmost, where there is one: bounds fall or rise towards the right
abbrev pub place_in : Bounds → ℕ → Option ℕ
place_in bounds number =
    if nat_le bounds.right bounds.left then (if nat_le bounds.right number && nat_le number bounds.left then Some (number - bounds.right) else None)
    else if nat_le bounds.left number && nat_le number bounds.right then Some (bounds.right - number)
    else None

-- a letter; x where there is no such bit
abbrev pub letter_at : Vector → Option ℕ → Bit4
letter_at v place = unwrap_or (option_and_then (slice_get v.letters) place) X

-- the bit of this number
abbrev pub bit_letter : Vector → Bounds → ℕ → Bit4
bit_letter v bounds number = letter_at v (place_in bounds number)

-- the number that an index is, read whole; none where it is unknown or negative
abbrev pub index_in : Vector → Option ℕ
index_in v = if is_one (sign_letter v) then None else number v.letters

abbrev pub bit_by : Vector → Bounds → Option ℕ → Bit4
bit_by v bounds None = X
bit_by v bounds (Some number) = bit_letter v bounds number

-- the bit that an index gives
abbrev pub indexed_bit : Vector → Bounds → Vector → Vector
indexed_bit v bounds index = single (bit_by v bounds (index_in index))

-- `name[index]`
abbrev pub bit_value : Environment → ℕ → Vector → Vector
bit_value now n index = indexed_bit (value_at now n) (bounds_of now n) index

-- the number of the bit that stands so far from the right one of these bounds
abbrev pub number_of_bit : Bounds → ℕ → ℕ
number_of_bit bounds place = if nat_le bounds.right bounds.left then bounds.right + place else bounds.right - place

-- so many bits of a part, from its right one on
abbrev pub part_letters : Vector → Bounds → Bounds → ℕ → List Bit4
part_letters v bounds selected zero = []
part_letters v bounds selected (suc count) =
    part_letters v bounds selected count ++ bit_letter v bounds (number_of_bit selected count) ∷ []

abbrev pub part_of : Vector → Bounds → Bounds → ℕ → Vector
part_of v bounds selected count = record { letters = part_letters v bounds selected count; signed = false }

-- `name[left:right]`
abbrev pub part_value : Environment → ℕ → Bounds → Vector
part_value now n selected = part_of (value_at now n) (bounds_of now n) selected (part_size selected)

-- ---- concatenations (5.1.14)

-- `{left, right}`; the leftmost bits are cut where there are more than 64
abbrev pub joined_value : Vector → Vector → Vector
joined_value v w = record { letters = take 64 (w.letters ++ v.letters); signed = false }

-- one, and so many more on its left
abbrev pub copies : ℕ → Vector → Vector
copies zero v = with_sign v false
copies (suc count) v = joined_value v (copies count v)

-- `{count{operand}}`
abbrev pub repeated_value : ℕ → Vector → Vector
repeated_value count v = copies (count - 1) v

-- ---- values

-- 5.5.2: extended by the sign given, to where it stands
abbrev pub extended_value : Vector → Bool → SizeAndSign → Vector
extended_value v extension here = with_sign (resize (with_sign v extension) here.size) here.signed

-- extended by the sign of where it stands
abbrev pub fitted_value : Vector → SizeAndSign → Vector
fitted_value v here = extended_value v here.signed here

-- a unary + keeps unknown bits as they are (5.1.5 says both: the same as its operand, and x where a bit is unknown)
abbrev pub kept_value : Sign → Vector → Vector
kept_value signs.Plus v = v
kept_value signs.Minus v = vectors.neg v
kept_value signs.Invert v = complement v

abbrev pub shared_value : Shared → Vector → Vector → Vector
shared_value shared.Times v w = vectors.mul v w
shared_value shared.Divide v w = vectors.div v w
shared_value shared.Remainder v w = vectors.rem v w
shared_value shared.Plus v w = vectors.add v w
shared_value shared.Minus v w = vectors.sub v w
shared_value shared.And v w = vectors.and v w
shared_value shared.Or v w = vectors.or v w
shared_value shared.Xor v w = vectors.xor v w
shared_value shared.Xnor v w = vectors.xnor v w

abbrev pub compared_value : Compared → Vector → Vector → Vector
compared_value compared.Less v w = vectors.lt v w
compared_value compared.LessOrEqual v w = vectors.le v w
compared_value compared.Greater v w = vectors.gt v w
compared_value compared.GreaterOrEqual v w = vectors.ge v w
compared_value compared.Equal v w = vectors.eq v w
compared_value compared.NotEqual v w = vectors.ne v w
compared_value compared.CaseEqual v w = vectors.case_eq v w
compared_value compared.CaseNotEqual v w = vectors.case_ne v w

abbrev pub combined_value : Logical → Vector → Vector → Vector
combined_value logical.And v w = single (and_letter (truth v) (truth w))
combined_value logical.Or v w = single (or_letter (truth v) (truth w))

abbrev pub shifted_value : Shift → Vector → Vector → Vector
shifted_value shift.Left v w = vectors.shl v w
shifted_value shift.Right v w = vectors.shr v w
shifted_value shift.RightSigned v w = vectors.ashr v w

-- 5.1.13: one branch, or where the truth is unknown both joined
abbrev pub chosen_value : Bit4 → Vector → Vector → Vector
chosen_value One v w = v
chosen_value Zero v w = w
chosen_value X v w = vectors.join v w
chosen_value Z v w = vectors.join v w

-- ---- what an operand stands in

abbrev pub size_and_sign : ℕ → Bool → SizeAndSign
size_and_sign size signed = record { size = size; signed = signed }

-- an expression by itself
abbrev pub self_determined : Environment → ExpressionTree → SizeAndSign
self_determined now e = size_and_sign (size_of now e) (is_signed now e)

-- 5.4.1, 5.5.1: operands that are compared
abbrev pub common : SizeAndSign → SizeAndSign → SizeAndSign
common left right = size_and_sign (max left.size right.size) (left.signed && right.signed)

-- the left operand of an operator, by what both operands are by themselves and where the result stands
abbrev pub left_size_and_sign : OperandRule → SizeAndSign → SizeAndSign → SizeAndSign → SizeAndSign
left_size_and_sign (ContextDetermined operator) left right here = here
left_size_and_sign (MaxSized operator) left right here = common left right
left_size_and_sign (SelfDetermined operator) left right here = left
left_size_and_sign (LeftContextDetermined operator) left right here = here

-- the right one
abbrev pub right_size_and_sign : OperandRule → SizeAndSign → SizeAndSign → SizeAndSign → SizeAndSign
right_size_and_sign (ContextDetermined operator) left right here = here
right_size_and_sign (MaxSized operator) left right here = common left right
right_size_and_sign (SelfDetermined operator) left right here = right
right_size_and_sign (LeftContextDetermined operator) left right here = right

-- the only one
abbrev pub unary_size_and_sign : UnaryOperandRule → SizeAndSign → SizeAndSign → SizeAndSign
unary_size_and_sign (InContext operator) operand here = here
unary_size_and_sign (Reduced operator) operand here = operand
unary_size_and_sign LogicallyNegated operand here = operand

abbrev pub unary_value : UnaryOperandRule → Vector → Vector
unary_value (InContext operator) v = kept_value operator v
unary_value (Reduced operator) v = vectors.reduce v operator
unary_value LogicallyNegated v = single (not_letter (truth v))

abbrev pub binary_value : OperandRule → Vector → Vector → Vector
binary_value (ContextDetermined operator) v w = shared_value operator v w
binary_value (MaxSized operator) v w = compared_value operator v w
binary_value (SelfDetermined operator) v w = combined_value operator v w
binary_value (LeftContextDetermined operator) v w = shifted_value operator v w

-- 5.4, 5.5: the value in a context of this size and sign. The operands of comparisons, reductions and logical operators don't take the
-- context's size, nor do those of concatenations, `$signed` and `$unsigned`, an index, the right operand of a shift and the condition of
-- `?:`; the result is extended to it. A number that spreads is extended by its leftmost letter (3.5.1)
abbrev pub value_of : Environment → ExpressionTree → SizeAndSign → Vector
value_of now (constant c) here = extended_value c.value (c.spreads || here.signed) here
value_of now (variable n) here = fitted_value (value_at now n) here
value_of now (bit n index) here = fitted_value (bit_value now n (value_of now index (self_determined now index))) here
value_of now (bit_of v bounds index) here = fitted_value (indexed_bit v bounds (value_of now index (self_determined now index))) here
value_of now (part n bounds) here = fitted_value (part_value now n bounds) here
value_of now time here = fitted_value (of_number 64 now.time) here
value_of now (conversion signed o) here = fitted_value (with_sign (value_of now o (self_determined now o)) signed) here
value_of now (apply operator o) here =
    let operand_rule = unary_operand_rule operator in
    fitted_value (unary_value operand_rule (value_of now o (unary_size_and_sign operand_rule (self_determined now o) here))) here
value_of now (combine operator left right) here =
    let by = operand_rule operator in
    fitted_value (binary_value by
    (value_of now left (left_size_and_sign by (self_determined now left) (self_determined now right) here))
    (value_of now right (right_size_and_sign by (self_determined now left) (self_determined now right) here))) here
value_of now (conditional condition when_true when_false) here =
    fitted_value (chosen_value (truth (value_of now condition (self_determined now condition))) (value_of now when_true here) (value_of now when_false here)) here
value_of now (joined left right) here = fitted_value (joined_value (value_of now left (self_determined now left)) (value_of now right (self_determined now right))) here
value_of now (repeated count o) here = fitted_value (repeated_value count (value_of now o (self_determined now o))) here

-- ---- what actions ask of an expression

-- at its own size and sign
abbrev pub self_determined_value : Environment → ExpressionTree → Vector
self_determined_value now e = value_of now e (self_determined now e)

-- 9.4: a condition holds where its truth is 1
unfoldable pub holds : Environment → ExpressionTree → Bool
holds now e = is_one (truth (self_determined_value now e))

-- 5.4.1, 5.5.3: the right side of an assignment to so many bits, at the larger size of both sides, extended by its own sign
-- and cut on the left
unfoldable pub right_side : Environment → ℕ → ExpressionTree → Vector
right_side now count e = resize (value_of now e (size_and_sign (max count (size_of now e)) (is_signed now e))) count

-- 9.7.1: the number of a delay, extended to 64 bits by its own sign and read as unsigned; an unknown one is 0
abbrev pub amount_in : Vector → ℕ
amount_in v = unwrap_or (number (resize v 64).letters) 0

-- 9.7.1, 19.8: a delay in units of the precision
unfoldable pub delay_of : Environment → ExpressionTree → ℕ
delay_of now e = amount_in (self_determined_value now e) * now.factor
