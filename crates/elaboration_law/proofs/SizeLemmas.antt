-- Sizes of expressions by what names are worth: 1 to 64 bits, and what parts have together.
use Rattle.std.proofs.Common.{◌≡◌, ◌≤◌, ◌==◌, ℕ, zero, suc, ◌+◌, ◌*◌, min, max, Bool, true, false, if◌then◌else◌, List, ◌++◌, length, take, drop, replicate, Option, None, Some, sym, ap, ◌∙◌, subst, arith, length-append}
use Rattle.std.proofs.lemmas.List.{length-take-le, length-replicate}
use Rattle.vbits.specs.declared.bit4.Bit4.{Bit4}
use Rattle.vbits.specs.declared.bit4.Bit4.TheVariants.{X}
use Rattle.vbits.specs.Letters.{is_unknown}
use Rattle.vbits.specs.Vectors.{filled, of_number, with_sign}
use Rattle.vbits.specs.PlanesBack.{length-letters_of}
use Rattle.vbits.proofs.LettersOf.{digits-letters_of}
use Rattle.vwords.specs.Words.{Text}
use Rattle.vast.specs.NumberedExpressions as text
use Rattle.vvalue.specs.Value.{size_by, unary_size, part_size, size_of}
use Rattle.vvalue.specs.OperandRules.{operand_rule, unary_operand_rule}
use Rattle.vvalue.specs.declared.operand_rule.OperandRule.{OperandRule}
use Rattle.vvalue.specs.declared.operand_rule.OperandRule.TheVariants.{ContextDetermined, MaxSized, SelfDetermined, LeftContextDetermined}
use Rattle.vvalue.specs.declared.operand_rule.UnaryOperandRule.{UnaryOperandRule}
use Rattle.vvalue.specs.declared.operand_rule.UnaryOperandRule.TheVariants.{InContext, Reduced, LogicallyNegated}
use Rattle.vdesign.specs.declared.expression.Bounds.{Bounds}
use Rattle.vvalue.proofs.SelectLemmas.{part_length}
use Rattle.velab_expr.specs.Literals as literals
use Rattle.velab_expr.specs.Literals.{spelled_letters, first_byte, filling_letters, is_decimal_base, letters_per_digit, lettered_value, based_value, without_mark, digits_behind, size_before, constant_by, constant_of}
use Rattle.velab_expr.specs.Constants.{nothing, constant_value, count_in}
use Rattle.velab_expr.specs.Resolved.{count_of}
use Rattle.elaboration_law.specs.Widths.{Worth, meant, meant_parts, size_in, joined_size, part_in, selected_by}

-- 1 to 64 bits
pub record IsSize (n : ℕ) : Type 0 where
  pub some : 1 ≤ n
  pub few : n ≤ 64

-- each name is worth so many
abbrev pub AreVectors : (Text → Worth) → Type 0
AreVectors named = (letters : Text) → IsSize (length (named letters).value.letters)

binary_sized : (rule : OperandRule) (m n : ℕ) → IsSize m → IsSize n → IsSize (size_by rule m n)
binary_sized (ContextDetermined operator) m n h k = record { some = omega (arith, h.some, k.some); few = omega (arith, h.few, k.few) }
binary_sized (MaxSized operator) m n h k = record { some = omega arith; few = omega arith }
binary_sized (SelfDetermined operator) m n h k = record { some = omega arith; few = omega arith }
binary_sized (LeftContextDetermined operator) m n h k = h

unary_sized : (rule : UnaryOperandRule) (n : ℕ) → IsSize n → IsSize (unary_size rule n)
unary_sized (InContext operator) n h = h
unary_sized (Reduced operator) n h = record { some = omega arith; few = omega arith }
unary_sized LogicallyNegated n h = record { some = omega arith; few = omega arith }

max_sized : (m n : ℕ) → IsSize m → IsSize n → IsSize (max m n)
max_sized m n h k = record { some = omega (arith, h.some, k.some); few = omega (arith, h.few, k.few) }

clipped_sized : (n : ℕ) → 1 ≤ n → IsSize (min 64 n)
clipped_sized n h = record { some = omega (arith, h); few = omega arith }

times_some : (m n : ℕ) → 1 ≤ m → 1 ≤ n → 1 ≤ m * n
times_some zero n h k = absurd (omega (arith, h))
times_some (suc m) n h k = let more : n ≤ suc m * n = omega arith in omega (arith, more, k)

-- ---- numbers of the text (3.5.1), and parts (5.2.1)

number_long : (count n : ℕ) → length (of_number count n).letters ≡ count
unfolding of_number
number_long count n = ap length (sym (digits-letters_of count n)) ∙ length-letters_of count n 0

letters_long : (size : ℕ) (xs : List Bit4) (filling : Bit4) → size ≤ 64 → length (take size (xs ++ replicate 64 filling)) ≡ size
letters_long size xs filling few =
    let all = length-append xs (replicate 64 filling) in let more = length-replicate 64 filling in
    length-take-le size (xs ++ replicate 64 filling) (omega (arith, all, more, few))

value_long : (size base : ℕ) (ds : Text) → size ≤ 64 → length (based_value size base ds).letters ≡ size
unfolding filled
value_long size base ds few = by (is_decimal_base base) (is_unknown (filling_letters ds)) _
  where
    by : (decimal unknown : Bool) (n : ℕ) →
        length (if decimal then (if unknown then filled size (filling_letters ds) else of_number size n) else lettered_value size (letters_per_digit base) ds).letters ≡ size
    by true true n = length-replicate size (filling_letters ds)
    by true false n = number_long size n
    by false unknown n = letters_long size (spelled_letters (letters_per_digit base) ds) (filling_letters ds) few

written_sized : (ds : Text) → IsSize (literals.size_of ds)
written_sized ds = by (length ds == 0) _
  where
    by : (test : Bool) (n : ℕ) → IsSize (if test then 32 else max 1 (min 64 n))
    by true n = record { some = omega arith; few = omega arith }
    by false n = record { some = omega arith; few = omega arith }

plain_sized : (n : ℕ) → IsSize (length (with_sign (of_number 32 n) true).letters)
unfolding with_sign
plain_sized n = subst IsSize (sym (number_long 32 n)) (record { some = omega arith; few = omega arith })

constant_sized : (text : Text) (mark : Option ℕ) → IsSize (length (constant_by text mark).value.letters)
unfolding with_sign
constant_sized text None = plain_sized _
constant_sized text (Some place) =
    let size = size_before place text in let rest = drop (place + 1) text in
    let h = written_sized size in
    subst IsSize (sym (value_long (literals.size_of size) (first_byte (without_mark rest)) (digits_behind rest) h.few)) h

literal_sized : (digits : Text) → IsSize (length (constant_of digits).value.letters)
literal_sized digits = constant_sized digits _

part_sized : (name : Worth) (selected : Bounds) → IsSize (size_of nothing (part_in name selected))
part_sized name selected =
    subst IsSize (sym (part_length name.value name.bounds selected (part_size selected)))
    (record { some = omega arith; few = omega arith })

-- the size that a concatenation of nothing has
pub none_sized : IsSize (length (filled 1 X).letters)
unfolding filled
none_sized = record { some = omega arith; few = omega arith }

module _ (named : Text → Worth) (vectors : AreVectors named) where
  mutual
    pub sized : (tree : text.ExpressionTree) → IsSize (size_in named tree)
    sized (text.number digits) = literal_sized digits.letters
    sized (text.name letters) = vectors letters.letters
    sized (text.time word) = record { some = omega arith; few = omega arith }
    sized (text.bit letters index) = record { some = omega arith; few = omega arith }
    sized (text.part letters left right) = part_sized (named letters.letters) (selected_by named left right)
    sized (text.parentheses inner) = sized inner
    sized (text.concatenation parts) = parts_sized parts
    sized (text.replication count parts) =
        let times = count_in (constant_value (meant named count)) in
        clipped_sized (max 1 times * size_of nothing (meant_parts named parts))
        (times_some (max 1 times) (size_of nothing (meant_parts named parts)) (omega arith) (parts_sized parts).some)
    sized (text.conversion signed inner) = sized inner
    sized (text.apply operator inner) = unary_sized (unary_operand_rule operator) (size_in named inner) (sized inner)
    sized (text.combine operator left right) = binary_sized (operand_rule operator) (size_in named left) (size_in named right) (sized left) (sized right)
    sized (text.conditional condition when_true when_false) = max_sized (size_in named when_true) (size_in named when_false) (sized when_true) (sized when_false)

    parts_sized : (parts : text.ExpressionTrees) → IsSize (size_of nothing (meant_parts named parts))
    parts_sized text.none = none_sized
    parts_sized (text.first one text.none) = sized one
    parts_sized (text.first one (text.first next more)) =
        clipped_sized (size_in named one + size_of nothing (meant_parts named (text.first next more))) (let h = sized one in let k = h.some in omega (arith, k))

  -- parts have as many bits as all of them, 64 at most
  pub joined_is : (one : text.ExpressionTree) (more : text.ExpressionTrees) →
      size_of nothing (meant_parts named (text.first one more)) ≡ min 64 (joined_size named (text.first one more))
  joined_is one text.none = let h = (sized one).few in omega (arith, h)
  joined_is one (text.first next more) = let rest = joined_is next more in omega (arith, rest)

  -- each has one at least
  pub counted : (parts : text.ExpressionTrees) → count_of parts ≤ joined_size named parts
  counted text.none = omega arith
  counted (text.first one more) = let rest = counted more in let h = (sized one).some in omega (arith, rest, h)
