-- *trusted*: Sizes of expressions, of targets and of ranges that are right (IEEE 1364-2005, 4.3.1, 4.10, 5.1.14, 5.2.1, 5.4.1), by what
-- names are worth.
use Rattle.std.specs.Prelude.{ℕ, ◌+◌, ◌*◌, nat_le, Bool, true, ◌&&◌, length, Option, None, Some, is_some}
use Rattle.vbits.specs.Vectors.{Vector}
use Rattle.vwords.specs.Words.{Text}
use Rattle.vast.specs.NumberedExpressions as text
use Rattle.vast.specs.NumberedStatements.{TargetTree, TargetTrees, whole, bit, part, joined, none, first}
use Rattle.vast.specs.NumberedModules.{RangeTree}
use Rattle.vdesign.specs.Expressions as design
use Rattle.vdesign.specs.declared.expression.Bounds.{Bounds}
use Rattle.vvalue.specs.Value.{part_of, part_size, size_of}
use Rattle.vvalue.specs.Flaws.{is_part}
use Rattle.velab_expr.specs.Literals.{constant_of}
use Rattle.velab_expr.specs.Constants.{nothing, constant_value, bound_in, part_bounds, count_in}
use Rattle.velab_expr.specs.Ranges.{span}
use Rattle.velab_expr.specs.Resolved.{plain, no_parts, in_front}

-- What a name is worth: its value, and the bounds of its bits. No size depends on the value of a variable, so that any of its length will do.
pub record Worth : Type 0 where
  pub value : Vector
  pub bounds : Bounds

-- 5.2.1
abbrev pub part_in : Worth → Bounds → design.ExpressionTree
part_in name selected = plain (part_of name.value name.bounds selected (part_size selected))

-- 5.1.14: at least once (own: it allows 0 times within a concatenation), and at most 64 bits together (own)
abbrev pub can_repeat : ℕ → ℕ → Bool
can_repeat count size = nat_le 1 count && nat_le (count * size) 64

module _ (named : Text → Worth) where
  -- ---- an expression, with what names are worth in their places (4.10)

  abbrev mutual
    pub meant : text.ExpressionTree → design.ExpressionTree
    meant (text.number digits) = design.constant (constant_of digits.letters)
    meant (text.name letters) = plain (named letters.letters).value
    meant (text.time word) = design.time
    meant (text.bit letters index) = design.bit_of (named letters.letters).value (named letters.letters).bounds (meant index)
    meant (text.part letters left right) = part_in (named letters.letters) (part_bounds (constant_value (meant left)) (constant_value (meant right)))
    meant (text.parentheses inner) = meant inner
    meant (text.concatenation parts) = meant_parts parts
    meant (text.replication count parts) = design.repeated (count_in (constant_value (meant count))) (meant_parts parts)
    meant (text.conversion signed inner) = design.conversion signed (meant inner)
    meant (text.apply operator inner) = design.apply operator (meant inner)
    meant (text.combine operator left right) = design.combine operator (meant left) (meant right)
    meant (text.conditional condition when_true when_false) = design.conditional (meant condition) (meant when_true) (meant when_false)

    pub meant_parts : text.ExpressionTrees → design.ExpressionTree
    meant_parts text.none = no_parts
    meant_parts (text.first one more) = in_front (meant one) more (meant_parts more)

  -- what a constant is worth
  abbrev pub constant_in : text.ExpressionTree → Vector
  constant_in tree = constant_value (meant tree)

  -- 5.2.1: the bounds of a part
  abbrev pub selected_by : text.ExpressionTree → text.ExpressionTree → Bounds
  selected_by left right = part_bounds (constant_in left) (constant_in right)

  -- 5.4.1: how many bits an expression has by itself, and parts together (5.1.14)
  abbrev pub size_in : text.ExpressionTree → ℕ
  size_in tree = size_of nothing (meant tree)

  abbrev pub joined_size : text.ExpressionTrees → ℕ
  joined_size text.none = 0
  joined_size (text.first one more) = size_in one + joined_size more

  -- ---- expressions: each part goes the way of its name and has at most 64 bits (5.2.1), and so has what is joined or repeated (5.1.14)

  abbrev mutual
    pub is_sized : text.ExpressionTree → Bool
    is_sized (text.number digits) = true
    is_sized (text.name letters) = true
    is_sized (text.time word) = true
    is_sized (text.bit letters index) = is_sized index
    is_sized (text.part letters left right) = is_sized left && (is_sized right && is_part (named letters.letters).bounds (selected_by left right))
    is_sized (text.parentheses inner) = is_sized inner
    is_sized (text.concatenation parts) = are_sized parts && nat_le (joined_size parts) 64
    is_sized (text.replication count parts) =
        is_sized count
        && ((are_sized parts && nat_le (joined_size parts) 64) && can_repeat (count_in (constant_in count)) (size_in (text.concatenation parts)))
    is_sized (text.conversion signed inner) = is_sized inner
    is_sized (text.apply operator inner) = is_sized inner
    is_sized (text.combine operator left right) = is_sized left && is_sized right
    is_sized (text.conditional condition when_true when_false) = is_sized condition && (is_sized when_true && is_sized when_false)

    pub are_sized : text.ExpressionTrees → Bool
    are_sized text.none = true
    are_sized (text.first one more) = is_sized one && are_sized more

  abbrev pub is_sized_if : Option text.ExpressionTree → Bool
  is_sized_if None = true
  is_sized_if (Some tree) = is_sized tree

  -- ---- ranges (4.3.1): bounds from 0 to 65535 (own), at most 64 bits from one to the other (own)

  abbrev pub is_bound : text.ExpressionTree → Bool
  is_bound tree = is_sized tree && is_some (bound_in (constant_in tree))

  abbrev pub is_range : Option RangeTree → Bool
  is_range None = true
  is_range (Some range) = is_bound range.left && (is_bound range.right && nat_le (span (selected_by range.left range.right)) 64)

  -- ---- targets: 64 bits together at most (5.1.14)

  abbrev mutual
    pub target_size : TargetTree → ℕ
    target_size (whole letters) = length (named letters.letters).value.letters
    target_size (bit letters index) = 1
    target_size (part letters left right) = part_size (selected_by left right)
    target_size (joined targets) = targets_size targets

    pub targets_size : TargetTrees → ℕ
    targets_size none = 0
    targets_size (first one more) = target_size one + targets_size more

  abbrev mutual
    pub has_sized_parts : TargetTree → Bool
    has_sized_parts (whole letters) = true
    has_sized_parts (bit letters index) = is_sized index
    has_sized_parts (part letters left right) = is_sized left && (is_sized right && is_part (named letters.letters).bounds (selected_by left right))
    has_sized_parts (joined targets) = have_sized_parts targets

    pub have_sized_parts : TargetTrees → Bool
    have_sized_parts none = true
    have_sized_parts (first one more) = has_sized_parts one && have_sized_parts more

  abbrev pub is_target : TargetTree → Bool
  is_target target = has_sized_parts target && nat_le (target_size target) 64
