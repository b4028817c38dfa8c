-- How many letters the results of operators have, and their signs; what has the size and the sign that are asked for stays as it is.
use Rattle.std.proofs.Common.{◌≡◌, ℕ, zero, suc, ◌+◌, ◌*◌, min, Bool, true, false, ◌&&◌, List, ◌++◌, length, take, drop, replicate, Option, None, Some, refl, sym, ap, ◌∙◌, length-append, arith}
use Rattle.std.proofs.lemmas.List.{length-take, length-map, length-replicate}
use Rattle.std.proofs.lemmas.Slice.Zip.{length-zip}
use Rattle.std.proofs.Math.Nat.{suc-mul}
use Rattle.std.proofs.Math.Seq.{take-append_seam}
use Rattle.std.specs.Prelude.{ℤ, pos, ◌^◌, unsigned_abs, zip}
use Rattle.std.specs.Int.{int_rem_euclid}
use Rattle.vbits.specs.declared.bit4.Bit4.{Bit4}
use Rattle.vbits.specs.declared.bit4.Bit4.TheVariants.{Zero, One, X, Z}
use Rattle.vbits.specs.Letters.{not_letter, join_letter}
use Rattle.vbits.specs.Vectors.{Vector, resize, with_sign, sign_letter, bitwise, complement, single, reduce, arithmetic, neg, compared, result_letters, shifted_left, shifted_right, shl, shr, ashr, eq, ne, case_eq, case_ne}
use Rattle.vbits.specs.PlanesBack.{length-letters_of}
use Rattle.vbits.proofs.LettersOf.{digits-letters_of}
use Rattle.vvalue.specs.declared.size_and_sign.SizeAndSign.{SizeAndSign}
use Rattle.vvalue.specs.declared.operand_rule.OperandRule.{OperandRule}
use Rattle.vvalue.specs.declared.operand_rule.OperandRule.TheVariants.{ContextDetermined, MaxSized, SelfDetermined, LeftContextDetermined}
use Rattle.vvalue.specs.declared.operand_rule.UnaryOperandRule.{UnaryOperandRule}
use Rattle.vvalue.specs.declared.operand_rule.UnaryOperandRule.TheVariants.{InContext, Reduced, LogicallyNegated}
use Rattle.vvalue.specs.declared.operand_rule.Shared.{Shared}
use Rattle.vvalue.specs.declared.operand_rule.Shared.TheVariants as shared
use Rattle.vvalue.specs.declared.operand_rule.Compared.{Compared}
use Rattle.vvalue.specs.declared.operand_rule.Compared.TheVariants as compares
use Rattle.vvalue.specs.declared.operand_rule.Logical.{Logical}
use Rattle.vvalue.specs.declared.operand_rule.Logical.TheVariants as logical
use Rattle.vvalue.specs.declared.operand_rule.Shift.{Shift}
use Rattle.vvalue.specs.declared.operand_rule.Shift.TheVariants as shift
use Rattle.vvalue.specs.declared.operand_rule.Sign.{Sign}
use Rattle.vvalue.specs.declared.operand_rule.Sign.TheVariants as signs
use Rattle.vvalue.specs.Value.{size_and_sign, left_size_and_sign, right_size_and_sign, unary_size_and_sign, fitted_value, kept_value, shared_value, compared_value, combined_value, shifted_value, chosen_value, unary_value, binary_value, joined_value, copies}
use Rattle.vvalue.proofs.Lengths.{extended_length, extended_mark}
use Rattle.expression_code.specs.Code.{at_size, operator_value}
use Rattle.expression_code.specs.CodeOf.{one_bit, binary_result, unary_result}

-- a value of this size and sign
pub record Fills (v : Vector) (here : SizeAndSign) : Type 0 where
  pub size : length v.letters ≡ here.size
  pub sign : v.signed ≡ here.signed

-- ---- what stays as it is

pub fitted_same : (v : Vector) (here : SizeAndSign) → Fills v here → fitted_value v here ≡ v
unfolding resize with_sign
fitted_same v here fills =
    let row = replicate here.size (sign_letter (with_sign v here.signed)) in
    let same : take here.size (v.letters ++ row) ≡ v.letters = ap (λ (n : ℕ). take n (v.letters ++ row)) (sym fills.size) ∙ take-append_seam v.letters row in
    λ i. record { letters = same i; signed = sym fills.sign i }

pub at_size_same : (v w : Vector) → length v.letters ≡ length w.letters → at_size v w ≡ w
unfolding resize
at_size_same v w alike =
    let row = replicate (length v.letters) (sign_letter w) in
    let same : take (length v.letters) (w.letters ++ row) ≡ w.letters = ap (λ (n : ℕ). take n (w.letters ++ row)) alike ∙ take-append_seam w.letters row in
    ap (λ (letters : List Bit4). record { letters = letters; signed = w.signed }) same

-- extending asks only for the sign that it is given
pub mark_skipped : (v : Vector) (mark : Bool) (here : SizeAndSign) → fitted_value (with_sign v mark) here ≡ fitted_value v here
unfolding with_sign
mark_skipped v mark here = refl

pub fitted_fills : (v : Vector) (here : SizeAndSign) → Fills (fitted_value v here) here
fitted_fills v here = record { size = extended_length v here.signed here; sign = extended_mark v here.signed here }

-- ---- lists of letters

result_length : (count : ℕ) (z : Option ℤ) → length (result_letters count z) ≡ count
result_length count None = length-replicate count X
result_length count (Some z) =
    let n = unsigned_abs (int_rem_euclid z (pos (2 ^ count))) in
    ap length (sym (digits-letters_of count n)) ∙ length-letters_of count n 0

pub bits_length : (table : Bit4 → Bit4 → Bit4) (v w : Vector) → length v.letters ≡ length w.letters → length (bitwise table v w).letters ≡ length v.letters
unfolding bitwise
bits_length table v w alike =
    let both = length-zip v.letters w.letters in
    length-map (zip v.letters w.letters) (λ pair. table pair.0 pair.1) ∙ both ∙ omega (arith, alike)

left_length : (letters : List Bit4) (amount : Option ℕ) → length (shifted_left letters amount) ≡ length letters
left_length letters None = length-replicate (length letters) X
left_length letters (Some amount) =
    let whole = length-append (replicate amount Zero) letters in
    length-take (length letters) (replicate amount Zero ++ letters) ∙ omega (arith, whole)

right_length : (from_left : Bit4) (letters : List Bit4) (amount : Option ℕ) → length (shifted_right from_left letters amount) ≡ length letters
right_length from_left letters None = length-replicate (length letters) X
right_length from_left letters (Some amount) =
    let whole = length-append (drop amount letters) (replicate (length letters) from_left) in
    let row = length-replicate (length letters) from_left in
    length-take (length letters) (drop amount letters ++ replicate (length letters) from_left) ∙ omega (arith, whole, row)

-- ---- operators

and_self : (a b c : Bool) → a ≡ c → b ≡ c → (a && b) ≡ c
and_self true b c first second = second
and_self false b c first second = first

single_fills : (letter : Bit4) → Fills (single letter) one_bit
unfolding single
single_fills letter = record { size = refl; sign = refl }

bitwise_fills : (table : Bit4 → Bit4 → Bit4) (v w : Vector) (here : SizeAndSign) → Fills v here → Fills w here → Fills (bitwise table v w) here
unfolding bitwise
bitwise_fills table v w here first second =
    record { size = bits_length table v w (first.size ∙ sym second.size) ∙ first.size; sign = and_self v.signed w.signed here.signed first.sign second.sign }

arithmetic_fills : (operation : ℤ → ℤ → Option ℤ) (v w : Vector) (here : SizeAndSign) → Fills v here → Fills w here → Fills (arithmetic operation v w) here
unfolding arithmetic
arithmetic_fills operation v w here first second = record {
  size = result_length (length v.letters) _ ∙ first.size;
  sign = and_self v.signed w.signed here.signed first.sign second.sign;
}

shared_fills : (operator : Shared) (v w : Vector) (here : SizeAndSign) → Fills v here → Fills w here → Fills (shared_value operator v w) here
shared_fills shared.Times v w here first second = arithmetic_fills _ v w here first second
shared_fills shared.Divide v w here first second = arithmetic_fills _ v w here first second
shared_fills shared.Remainder v w here first second = arithmetic_fills _ v w here first second
shared_fills shared.Plus v w here first second = arithmetic_fills _ v w here first second
shared_fills shared.Minus v w here first second = arithmetic_fills _ v w here first second
shared_fills shared.And v w here first second = bitwise_fills _ v w here first second
shared_fills shared.Or v w here first second = bitwise_fills _ v w here first second
shared_fills shared.Xor v w here first second = bitwise_fills _ v w here first second
shared_fills shared.Xnor v w here first second = bitwise_fills _ v w here first second

compared_fills : (operator : Compared) (v w : Vector) → Fills (compared_value operator v w) one_bit
unfolding compared eq ne case_eq case_ne
compared_fills compares.Less v w = single_fills _
compared_fills compares.LessOrEqual v w = single_fills _
compared_fills compares.Greater v w = single_fills _
compared_fills compares.GreaterOrEqual v w = single_fills _
compared_fills compares.Equal v w = single_fills _
compared_fills compares.NotEqual v w = single_fills _
compared_fills compares.CaseEqual v w = single_fills _
compared_fills compares.CaseNotEqual v w = single_fills _

combined_fills : (operator : Logical) (v w : Vector) → Fills (combined_value operator v w) one_bit
combined_fills logical.And v w = single_fills _
combined_fills logical.Or v w = single_fills _

shifted_fills : (operator : Shift) (v w : Vector) (here : SizeAndSign) → Fills v here → Fills (shifted_value operator v w) here
unfolding shl shr ashr
shifted_fills shift.Left v w here fills = record { size = left_length v.letters _ ∙ fills.size; sign = fills.sign }
shifted_fills shift.Right v w here fills = record { size = right_length Zero v.letters _ ∙ fills.size; sign = fills.sign }
shifted_fills shift.RightSigned v w here fills = record { size = right_length _ v.letters _ ∙ fills.size; sign = fills.sign }

kept_fills : (operator : Sign) (v : Vector) (here : SizeAndSign) → Fills v here → Fills (kept_value operator v) here
unfolding neg complement
kept_fills signs.Plus v here fills = fills
kept_fills signs.Minus v here fills = record { size = result_length (length v.letters) _ ∙ fills.size; sign = fills.sign }
kept_fills signs.Invert v here fills = record { size = length-map v.letters not_letter ∙ fills.size; sign = fills.sign }

pub unary_fills : (by : UnaryOperandRule) (v : Vector) (has here : SizeAndSign) → Fills v (unary_size_and_sign by has here) →
    Fills (unary_value by v) (unary_result by here)
unfolding reduce
unary_fills (InContext operator) v has here fills = kept_fills operator v here fills
unary_fills (Reduced operator) v has here fills = single_fills _
unary_fills LogicallyNegated v has here fills = single_fills _

pub binary_fills : (by : OperandRule) (v w : Vector) (left right here : SizeAndSign) → Fills v (left_size_and_sign by left right here) →
    Fills w (right_size_and_sign by left right here) → Fills (binary_value by v w) (binary_result by here)
binary_fills (ContextDetermined operator) v w left right here first second = shared_fills operator v w here first second
binary_fills (MaxSized operator) v w left right here first second = compared_fills operator v w
binary_fills (SelfDetermined operator) v w left right here first second = combined_fills operator v w
binary_fills (LeftContextDetermined operator) v w left right here first second = shifted_fills operator v w here first

-- operands that have the sizes that an operator gives them
pub right_at_size_same : (by : OperandRule) (v w : Vector) (left right here : SizeAndSign) → Fills v (left_size_and_sign by left right here) →
    Fills w (right_size_and_sign by left right here) → operator_value by v w ≡ binary_value by v w
right_at_size_same (ContextDetermined operator) v w left right here first second = ap (binary_value (ContextDetermined operator) v) (at_size_same v w (first.size ∙ sym second.size))
right_at_size_same (MaxSized operator) v w left right here first second = ap (binary_value (MaxSized operator) v) (at_size_same v w (first.size ∙ sym second.size))
right_at_size_same (SelfDetermined operator) v w left right here first second = refl
right_at_size_same (LeftContextDetermined operator) v w left right here first second = refl

pub chosen_fills : (letter : Bit4) (v w : Vector) (here : SizeAndSign) → Fills v here → Fills w here → Fills (chosen_value letter v w) here
chosen_fills One v w here first second = first
chosen_fills Zero v w here first second = second
chosen_fills X v w here first second = bitwise_fills join_letter v w here first second
chosen_fills Z v w here first second = bitwise_fills join_letter v w here first second

-- ---- concatenations

joined_length : (v w : Vector) → length (joined_value v w).letters ≡ min 64 (length v.letters + length w.letters)
joined_length v w =
    let whole = length-append w.letters v.letters in
    length-take 64 (w.letters ++ v.letters) ∙ omega (arith, whole)

pub joined_fills : (v w : Vector) (left right : SizeAndSign) → Fills v left → Fills w right →
    Fills (joined_value v w) (size_and_sign (min 64 (left.size + right.size)) false)
joined_fills v w left right first second =
    record { size = joined_length v w ∙ (λ i. min 64 (first.size i + second.size i)); sign = refl }

-- of two or more
copies_length : (count : ℕ) (v : Vector) → length (copies (suc count) v).letters ≡ min 64 (suc (suc count) * length v.letters)
unfolding with_sign
copies_length zero v = joined_length v (with_sign v false) ∙ omega arith
copies_length (suc count) v =
    let before = copies_length count v in
    joined_length v (copies (suc count) v) ∙ ap (λ (n : ℕ). min 64 (length v.letters + n)) before
    ∙ at_most (length v.letters) (suc (suc count) * length v.letters) (suc (suc (suc count)) * length v.letters) (suc-mul (suc (suc count)) (length v.letters))
  where
    at_most : (a b c : ℕ) → c ≡ b + a → min 64 (a + min 64 b) ≡ min 64 c
    at_most a b c is = omega (arith, is)

copies_sign : (count : ℕ) (v : Vector) → (copies count v).signed ≡ false
unfolding with_sign
copies_sign zero v = refl
copies_sign (suc count) v = refl

pub copies_fill : (count : ℕ) (v : Vector) (has : SizeAndSign) → Fills v has →
    Fills (copies (suc count) v) (size_and_sign (min 64 (suc (suc count) * has.size)) false)
copies_fill count v has fills =
    record { size = copies_length count v ∙ ap (λ (n : ℕ). min 64 (suc (suc count) * n)) fills.size; sign = refl }
