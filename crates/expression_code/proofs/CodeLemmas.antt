-- The value of an expression's code is the expression's value.
use Rattle.std.proofs.Common.{◌≡◌, ℕ, zero, suc, ◌-◌, ◌*◌, ◌==◌, max, min, nat_le, nat_lt, ◌<◌, cond, Bool, true, false, ◌&&◌, ◌||◌, List, [], ◌∷◌, ◌++◌, Option, Some, None, length, refl, sym, subst, ap, ◌∙◌, arith}
use Rattle.std.proofs.lemmas.Bool.{eqb-true, leb-true, le-leb, ltb-true, lt-ltb}
use Rattle.std.specs.Bool.{beq}
use Rattle.basis.proofs.Bools.{and_left, and_right}
use Rattle.vbits.specs.Vectors.{Vector, resize, with_sign, single, select, of_number, truth}
use Rattle.vdesign.specs.declared.expression.Bounds.{Bounds}
use Rattle.vdesign.specs.Expressions.{ExpressionTree, constant, variable, bit, bit_of, part, time, conversion, apply, combine, conditional, joined, repeated}
use Rattle.vvalue.specs.declared.size_and_sign.SizeAndSign.{SizeAndSign}
use Rattle.vvalue.specs.declared.operand_rule.OperandRule.{OperandRule}
use Rattle.vvalue.specs.OperandRules.{operand_rule, unary_operand_rule}
use Rattle.vvalue.specs.Value.{Environment, value_at, size_and_sign, self_determined, left_size_and_sign, right_size_and_sign, unary_size_and_sign, fitted_value, indexed_bit, bit_value, part_of, part_value, part_size, place_in, bounds_of, unary_value, binary_value, chosen_value, joined_value, copies, repeated_value, value_of, self_determined_value, right_side, amount_in, delay_of}
use Rattle.vvalue.proofs.Lengths.{extended_length, extended_mark}
use Rattle.vvalue.proofs.SelectLemmas.{part_length}
use Rattle.vvalue.proofs.ValueLemmas.{conversion_is, apply_is, combine_is, conditional_is, bit_is, bit_of_is, joined_is, repeated_is}
use Rattle.expression_code.specs.Shapes.{reads, declared}
use Rattle.expression_code.specs.declared.operation.Leaf.TheVariants as leaves
use Rattle.expression_code.specs.declared.operation.UnaryStep.TheVariants as steps
use Rattle.expression_code.specs.declared.operation.BinaryStep.TheVariants as pairs
use Rattle.expression_code.specs.declared.right_operand.RightOperand.TheVariants as right_operands
use Rattle.expression_code.specs.Code.{CodeTree, leaf, unary, binary, value_in, leaf_value, at_size, operator_value, code_value}
use Rattle.expression_code.specs.CodeOf.{own, is_same_context, fitted_code, one_bit, binary_result, unary_result, variable_code, slice_or_part, part_leaf, right_operand, binary_code, repeated_code, code_of, self_determined_code, right_side_code}
use Rattle.expression_code.proofs.ShapeLemmas.{IsLike, AreLike, first_read, like_left, like_right, own_same, bounds_same}
use Rattle.expression_code.proofs.SliceLemmas.{slice_is}
use Rattle.expression_code.proofs.LengthLemmas.{Fills, fitted_same, at_size_same, mark_skipped, fitted_fills, unary_fills, binary_fills, right_at_size_same, chosen_fills, joined_fills, copies_fill}

pub same_context : (a b : SizeAndSign) → is_same_context a b ≡ true → a ≡ b
same_context a b e =
    let sizes = eqb-true a.size b.size (and_left (a.size == b.size) (beq a.signed b.signed) e) in
    let signs = same_sign a.signed b.signed (and_right (a.size == b.size) (beq a.signed b.signed) e) in
    λ i. record { size = sizes i; signed = signs i }
  where
    same_sign : (x y : Bool) → beq x y ≡ true → x ≡ y
    same_sign true true h = refl
    same_sign true false h = cc
    same_sign false true h = cc
    same_sign false false h = refl

-- every value has the size and the sign of its context
pub value_fills : (now : Environment) (tree : ExpressionTree) (here : SizeAndSign) → Fills (value_of now tree here) here
value_fills now (constant c) here =
    record { size = extended_length c.value (c.spreads || here.signed) here; sign = extended_mark c.value (c.spreads || here.signed) here }
value_fills now (variable n) here = fitted_fills _ here
value_fills now (bit n index) here = fitted_fills _ here
value_fills now (bit_of v bounds index) here = fitted_fills _ here
value_fills now (part n bounds) here = fitted_fills _ here
value_fills now time here = fitted_fills _ here
value_fills now (conversion signed o) here = fitted_fills _ here
value_fills now (apply operator o) here = fitted_fills _ here
value_fills now (combine operator left right) here = fitted_fills _ here
value_fills now (conditional condition when_true when_false) here = fitted_fills _ here
value_fills now (joined left right) here = fitted_fills _ here
value_fills now (repeated count o) here = fitted_fills _ here

bit_fills : (v : Vector) (bounds : Bounds) (index : Vector) → Fills (indexed_bit v bounds index) one_bit
unfolding single
bit_fills v bounds index = record { size = refl; sign = refl }

part_fills : (v : Vector) (bounds selected : Bounds) → Fills (part_of v bounds selected (part_size selected)) (size_and_sign (part_size selected) false)
part_fills v bounds selected = record { size = part_length v bounds selected (part_size selected); sign = refl }

digits_many : (moment : ℕ) → Fills (of_number 64 moment) (size_and_sign 64 false)
unfolding of_number
digits_many moment = record { size = refl; sign = refl }

repeated_fills : (count : ℕ) (v : Vector) (has : SizeAndSign) → nat_le count 1 ≡ false → Fills v has →
    Fills (repeated_value count v) (size_and_sign (min 64 (max 1 count * has.size)) false)
repeated_fills zero v has more fills = cc
repeated_fills (suc zero) v has more fills = cc
repeated_fills (suc (suc count)) v has more fills =
    let back : suc count ≡ suc (suc count) - 1 = omega arith in
    let least : suc (suc count) ≡ max 1 (suc (suc count)) = omega arith in
    subst (λ (n : ℕ). Fills (copies n v) (size_and_sign (min 64 (max 1 (suc (suc count)) * has.size)) false)) back
    (subst (λ (n : ℕ). Fills (copies (suc count) v) (size_and_sign (min 64 (n * has.size)) false)) least (copies_fill count v has fills))

single_copy : (count : ℕ) (v : Vector) (here : SizeAndSign) → nat_le count 1 ≡ true → fitted_value v here ≡ fitted_value (repeated_value count v) here
single_copy zero v here few = sym (mark_skipped v false here)
single_copy (suc zero) v here few = sym (mark_skipped v false here)
single_copy (suc (suc count)) v here few = let most = leb-true (suc (suc count)) 1 few in absurd (omega (arith, most))

-- a part of a variable of so many bits
part_leaf_is : (values : List Vector) (moment n count : ℕ) (bounds selected : Bounds) → length (value_in values n).letters ≡ count →
    leaf_value values moment (part_leaf n count bounds selected) ≡ part_of (value_in values n) bounds selected (part_size selected)
part_leaf_is values moment n count bounds selected has = by (place_in bounds selected.left) (place_in bounds selected.right) refl refl
  where
    test : (high low : ℕ) → place_in bounds selected.left ≡ Some high → place_in bounds selected.right ≡ Some low → (b : Bool) →
        (nat_le low high && (nat_lt high count && nat_lt (high - low) 64)) ≡ b →
        leaf_value values moment (cond b (leaves.Slice n high low) (leaves.Part n bounds selected)) ≡ part_of (value_in values n) bounds selected (part_size selected)
    test high low left right true e =
        let order = leb-true low high (and_left (nat_le low high) (nat_lt high count && nat_lt (high - low) 64) e) in
        let both = and_right (nat_le low high) (nat_lt high count && nat_lt (high - low) 64) e in
        let within = ltb-true high count (and_left (nat_lt high count) (nat_lt (high - low) 64) both) in
        let few = ltb-true (high - low) 64 (and_right (nat_lt high count) (nat_lt (high - low) 64) both) in
        let inside : high < length (value_in values n).letters = omega (arith, within, has) in
        (λ i. cond (le-leb low high order i && lt-ltb high (length (value_in values n).letters) inside i) (select (value_in values n) high low) (value_in values n))
        ∙ sym (slice_is bounds selected high low left right order few (value_in values n) inside)
    test high low left right false e = refl

    by : (l r : Option ℕ) → place_in bounds selected.left ≡ l → place_in bounds selected.right ≡ r →
        leaf_value values moment (slice_or_part n count bounds selected l r) ≡ part_of (value_in values n) bounds selected (part_size selected)
    by (Some high) (Some low) left right = test high low left right (nat_le low high && (nat_lt high count && nat_lt (high - low) 64)) refl
    by (Some high) None left right = refl
    by None r left right = refl

module _ (now : Environment) where
  -- what is brought to a context only where it has another
  fitted_is : (has here : SizeAndSign) (code : CodeTree) (v : Vector) → code_value now.values now.time code ≡ v → Fills v has →
      code_value now.values now.time (fitted_code has here code) ≡ fitted_value v here
  fitted_is has here code v is fills = by (is_same_context has here) refl
    where
      by : (b : Bool) → is_same_context has here ≡ b →
          code_value now.values now.time (cond b code (unary (steps.Fit here) code)) ≡ fitted_value v here
      by true same = is ∙ sym (fitted_same v here (subst (Fills v) (same_context has here same) fills))
      by false same = ap (λ w. fitted_value w here) is

  variable_fills : (n : ℕ) → IsLike (value_at now n) (value_at (declared now.variables) n) → Fills (value_at now n) (own now.variables (variable n))
  variable_fills n like = record { size = like.size; sign = like.sign }

  variable_is : (n : ℕ) (has here : SizeAndSign) → Fills (value_at now n) has →
      code_value now.values now.time (variable_code n has here) ≡ fitted_value (value_at now n) here
  variable_is n has here fills = by (is_same_context has here) refl
    where
      by : (b : Bool) → is_same_context has here ≡ b →
          code_value now.values now.time (cond b (leaf (leaves.Load n)) (leaf (leaves.Extend n here))) ≡ fitted_value (value_at now n) here
      by true same = sym (fitted_same (value_at now n) here (subst (Fills (value_at now n)) (same_context has here same) fills))
      by false same = refl

  -- a right operand that goes into its operator
  variable_within : (by : OperandRule) (n : ℕ) (has here : SizeAndSign) (left : CodeTree) →
      code_value now.values now.time (binary_code by (cond (is_same_context has here) (right_operands.Variable n) right_operands.Computed) left (variable_code n has here))
      ≡ operator_value by (code_value now.values now.time left) (code_value now.values now.time (variable_code n has here))
  variable_within by n has here left = either (is_same_context has here)
    where
      either : (b : Bool) →
          code_value now.values now.time
          (binary_code by (cond b (right_operands.Variable n) right_operands.Computed) left (cond b (leaf (leaves.Load n)) (leaf (leaves.Extend n here))))
          ≡ operator_value by (code_value now.values now.time left) (code_value now.values now.time (cond b (leaf (leaves.Load n)) (leaf (leaves.Extend n here))))
      either true = refl
      either false = refl

  operand_within : (by : OperandRule) (right : ExpressionTree) (here : SizeAndSign) (left : CodeTree) →
      code_value now.values now.time (binary_code by (right_operand now.variables right here) left (code_of now.variables right here))
      ≡ operator_value by (code_value now.values now.time left) (code_value now.values now.time (code_of now.variables right here))
  operand_within by (constant c) here left = refl
  operand_within by (variable n) here left = variable_within by n (own now.variables (variable n)) here left
  operand_within by (bit n index) here left = refl
  operand_within by (bit_of v bounds index) here left = refl
  operand_within by (part n bounds) here left = refl
  operand_within by time here left = refl
  operand_within by (conversion signed o) here left = refl
  operand_within by (apply operator o) here left = refl
  operand_within by (combine operator one other) here left = refl
  operand_within by (conditional condition when_true when_false) here left = refl
  operand_within by (joined one other) here left = refl
  operand_within by (repeated count o) here left = refl

  repeated_within : (count : ℕ) (has here : SizeAndSign) (code : CodeTree) (v : Vector) → code_value now.values now.time code ≡ v → Fills v has →
      code_value now.values now.time (repeated_code count has here code) ≡ fitted_value (repeated_value count v) here
  repeated_within count has here code v is fills = by (nat_le count 1) refl
    where
      larger : SizeAndSign
      larger = size_and_sign (min 64 (max 1 count * has.size)) false

      by : (b : Bool) → nat_le count 1 ≡ b →
          code_value now.values now.time (cond b (fitted_code has here code) (fitted_code larger here (unary (steps.Repeat count) code)))
          ≡ fitted_value (repeated_value count v) here
      by true few = fitted_is has here code v is fills ∙ single_copy count v here few
      by false more =
          fitted_is larger here (unary (steps.Repeat count) code) (repeated_value count v) (ap (repeated_value count) is) (repeated_fills count v has more fills)

  -- what an operand has whose code is right
  filled_by : (tree : ExpressionTree) (here : SizeAndSign) → code_value now.values now.time (code_of now.variables tree here) ≡ value_of now tree here →
      Fills (code_value now.values now.time (code_of now.variables tree here)) here
  filled_by tree here is = subst (λ v. Fills v here) (sym is) (value_fills now tree here)

  pub in_context : (tree : ExpressionTree) (here : SizeAndSign) → AreLike now (reads tree) → code_value now.values now.time (code_of now.variables tree here) ≡ value_of now tree here
  in_context (constant c) here like = refl
  in_context (variable n) here like = variable_is n (own now.variables (variable n)) here (variable_fills n (like n (first_read n [])))
  in_context (bit n index) here like =
      let head = like n (first_read n (reads index)) in
      let tail = like_right now (n ∷ []) (reads index) like in
      let there = own now.variables index in
      let at = code_value now.values now.time (code_of now.variables index there) in
      bit_is now n index here there at (bit_value now n at) _
      (fitted_is one_bit here (unary (steps.Bit n (bounds_of (declared now.variables) n)) (code_of now.variables index there)) (bit_value now n at)
      (ap (λ bounds. indexed_bit (value_at now n) bounds at) (sym (bounds_same now n head))) (bit_fills (value_at now n) (bounds_of now n) at))
      refl (in_context index there tail) (sym (own_same now index tail))
  in_context (bit_of v bounds index) here like =
      let there = own now.variables index in
      let at = code_value now.values now.time (code_of now.variables index there) in
      bit_of_is now v bounds index here there at (indexed_bit v bounds at) _
      (fitted_is one_bit here (unary (steps.BitOf v bounds) (code_of now.variables index there)) (indexed_bit v bounds at) refl (bit_fills v bounds at))
      refl (in_context index there like) (sym (own_same now index like))
  in_context (part n bounds) here like =
      let head = like n (first_read n []) in
      let count = (own now.variables (variable n)).size in
      let numbers = bounds_of (declared now.variables) n in
      let fills = variable_fills n head in
      fitted_is (size_and_sign (part_size bounds) false) here (leaf (part_leaf n count numbers bounds)) (part_value now n bounds)
      (part_leaf_is now.values now.time n count numbers bounds fills.size
      ∙ ap (λ has. part_of (value_at now n) has bounds (part_size bounds)) (sym (bounds_same now n head)))
      (part_fills (value_at now n) (bounds_of now n) bounds)
  in_context time here like = fitted_is (size_and_sign 64 false) here (leaf leaves.Time) (of_number 64 now.time) refl (digits_many now.time)
  in_context (conversion signed o) here like =
      let there = own now.variables o in
      let v = code_value now.values now.time (code_of now.variables o there) in
      conversion_is now signed o here there v (with_sign v signed) _
      (fitted_is there here (code_of now.variables o there) v refl (filled_by o there (in_context o there like)) ∙ sym (mark_skipped v signed here))
      refl (in_context o there like) (sym (own_same now o like))
  in_context (apply operator o) here like =
      let by = unary_operand_rule operator in
      let has = own now.variables o in
      let there = unary_size_and_sign by has here in
      let v = code_value now.values now.time (code_of now.variables o there) in
      apply_is now operator by o here there v (unary_value by v) _
      (fitted_is (unary_result by here) here (unary (steps.Apply by) (code_of now.variables o there)) (unary_value by v) refl
      (unary_fills by v has here (filled_by o there (in_context o there like))))
      refl (in_context o there like) (ap (λ s. unary_size_and_sign by s here) (sym (own_same now o like))) refl
  in_context (combine operator left right) here like =
      let ones_like = like_left now (reads left) (reads right) like in
      let others_like = like_right now (reads left) (reads right) like in
      let by = operand_rule operator in
      let one = own now.variables left in
      let other = own now.variables right in
      let first = left_size_and_sign by one other here in
      let second = right_size_and_sign by one other here in
      let v = code_value now.values now.time (code_of now.variables left first) in
      let w = code_value now.values now.time (code_of now.variables right second) in
      let v_fills = filled_by left first (in_context left first ones_like) in
      let w_fills = filled_by right second (in_context right second others_like) in
      let ones : one ≡ self_determined now left = sym (own_same now left ones_like) in
      let others : other ≡ self_determined now right = sym (own_same now right others_like) in
      combine_is now operator by left right here first second v w (binary_value by v w) _
      (fitted_is (binary_result by here) here (binary_code by (right_operand now.variables right second) (code_of now.variables left first) (code_of now.variables right second))
      (binary_value by v w)
      (operand_within by right second (code_of now.variables left first) ∙ right_at_size_same by v w one other here v_fills w_fills)
      (binary_fills by v w one other here v_fills w_fills))
      refl (in_context left first ones_like) (in_context right second others_like)
      (λ i. left_size_and_sign by (ones i) (others i) here) (λ i. right_size_and_sign by (ones i) (others i) here) refl
  in_context (conditional condition when_true when_false) here like =
      let tests_like = like_left now (reads condition) (reads when_true ++ reads when_false) like in
      let branches_like = like_right now (reads condition) (reads when_true ++ reads when_false) like in
      let ones_like = like_left now (reads when_true) (reads when_false) branches_like in
      let others_like = like_right now (reads when_true) (reads when_false) branches_like in
      let there = own now.variables condition in
      let test = code_value now.values now.time (code_of now.variables condition there) in
      let v = code_value now.values now.time (code_of now.variables when_true here) in
      let w = code_value now.values now.time (code_of now.variables when_false here) in
      let v_fills = filled_by when_true here (in_context when_true here ones_like) in
      let w_fills = filled_by when_false here (in_context when_false here others_like) in
      let same : at_size v w ≡ w = at_size_same v w (v_fills.size ∙ sym w_fills.size) in
      conditional_is now condition when_true when_false here there test v w (chosen_value (truth test) v w) _ (truth test)
      (ap (chosen_value (truth test) v) same
      ∙ sym (fitted_same (chosen_value (truth test) v w) here (chosen_fills (truth test) v w here v_fills w_fills)))
      refl refl (in_context condition there tests_like) (sym (own_same now condition tests_like)) (in_context when_true here ones_like) (in_context when_false here others_like)
  in_context (joined left right) here like =
      let ones_like = like_left now (reads left) (reads right) like in
      let others_like = like_right now (reads left) (reads right) like in
      let first = own now.variables left in
      let second = own now.variables right in
      let v = code_value now.values now.time (code_of now.variables left first) in
      let w = code_value now.values now.time (code_of now.variables right second) in
      joined_is now left right here first second v w (joined_value v w) _
      (fitted_is (own now.variables (joined left right)) here (binary pairs.Join (code_of now.variables left first) (code_of now.variables right second))
      (joined_value v w) refl (joined_fills v w first second (filled_by left first (in_context left first ones_like)) (filled_by right second (in_context right second others_like))))
      refl (in_context left first ones_like) (sym (own_same now left ones_like)) (in_context right second others_like) (sym (own_same now right others_like))
  in_context (repeated count o) here like =
      let there = own now.variables o in
      let v = code_value now.values now.time (code_of now.variables o there) in
      repeated_is now count o here there v (repeated_value count v) _
      (repeated_within count there here (code_of now.variables o there) v refl (filled_by o there (in_context o there like)))
      refl (in_context o there like) (sym (own_same now o like))

  pub by_itself_is : (tree : ExpressionTree) → AreLike now (reads tree) → code_value now.values now.time (self_determined_code now.variables tree) ≡ self_determined_value now tree
  by_itself_is tree like = in_context tree (own now.variables tree) like ∙ ap (value_of now tree) (sym (own_same now tree like))

  pub right_side_is : (count : ℕ) (tree : ExpressionTree) → AreLike now (reads tree) → code_value now.values now.time (right_side_code now.variables count tree) ≡ right_side now count tree
  unfolding right_side resize with_sign
  right_side_is count tree like =
      let has = own now.variables tree in
      let larger = size_and_sign (max count has.size) has.signed in
      let asked = size_and_sign count has.signed in
      let v = value_of now tree larger in
      let fills = value_fills now tree larger in
      let same : has ≡ self_determined now tree = sym (own_same now tree like) in
      let signed : v ≡ with_sign v has.signed = λ i. record { letters = v.letters; signed = fills.sign i } in
      let cuts : fitted_value v asked ≡ resize v count = ap (λ (w : Vector). resize w count) (sym signed) in
      fitted_is larger asked (code_of now.variables tree larger) v (in_context tree larger like) fills
      ∙ cuts ∙ ap (λ (s : SizeAndSign). resize (value_of now tree (size_and_sign (max count s.size) s.signed)) count) same

  pub delay_is : (amount : ExpressionTree) → AreLike now (reads amount) →
      delay_of now amount ≡ amount_in (code_value now.values now.time (self_determined_code now.variables amount)) * now.factor
  unfolding delay_of
  delay_is amount like = ap (λ v. amount_in v * now.factor) (sym (by_itself_is amount like))
