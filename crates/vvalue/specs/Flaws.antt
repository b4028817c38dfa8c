-- *trusted*: What is wrong with the sizes of an expression, or with the bits that it asks for (IEEE 1364-2005, 4.2, 5.1.14, 5.2.1). The
-- first that is wrong counts, in the order of the text.
use Rattle.std.specs.Prelude.{ℕ, ◌+◌, ◌-◌, ◌*◌, max, min, nat_le, nat_lt, Bool, true, false, ◌&&◌, ◌||◌, List, [], ◌∷◌, slice_get, Option, None, Some, is_some}
use Rattle.std.specs.Option.{option_or}
use Rattle.vdesign.specs.Design.{Variable}
use Rattle.vdesign.specs.declared.design.Kind.{Kind}
use Rattle.vdesign.specs.declared.design.Kind.TheVariants.{Reg, Integer, Wire, Time}
use Rattle.vdesign.specs.declared.expression.Bounds.{Bounds}
use Rattle.vdesign.specs.declared.action.Target.{Target}
use Rattle.vdesign.specs.declared.action.Target.TheVariants as target
use Rattle.vdesign.specs.Expressions.{ExpressionTree, constant, variable, bit, bit_of, part, time, conversion, apply, combine, conditional, joined, repeated}
use Rattle.vvalue.specs.declared.flaw.Flaw.{Flaw}
use Rattle.vvalue.specs.declared.flaw.Flaw.TheVariants.{NoBits, Size}
use Rattle.vvalue.specs.Value.{Environment, size_of, bounds_of}
use Rattle.vvalue.specs.Targets.{targets_size, both_fall}

abbrev pub unless : Bool → Flaw → Option Flaw
unless true flaw = None
unless false flaw = Some flaw

-- 4.2, 4.8: an `integer` has bits, and so has what is declared with a range
abbrev pub kind_has_bits : Kind → Bool → Bool
kind_has_bits Integer ranged = true
kind_has_bits Time ranged = true
kind_has_bits Reg ranged = ranged
kind_has_bits Wire ranged = ranged

abbrev pub has_bits : Option Variable → Bool
has_bits None = true
has_bits (Some v) = kind_has_bits v.kind (is_some v.bounds)

abbrev pub rises : Bounds → Bool
rises bounds = nat_le bounds.left bounds.right

abbrev pub in_order : Bounds → Bounds → Bool
in_order declared selected = both_fall declared selected || (rises declared && rises selected)

-- 5.2.1: bounds from 0 to 65535 (own), at most 64 bits (own), and in the order of the declared bounds; a single bit is in both orders
abbrev pub is_part : Bounds → Bounds → Bool
is_part declared selected =
    nat_le (max selected.left selected.right) 65535
    && (nat_lt (max selected.left selected.right - min selected.left selected.right) 64 && in_order declared selected)

abbrev pub part_flaw : Environment → ℕ → Bounds → Option Flaw
part_flaw now n selected =
    option_or (unless (has_bits (slice_get now.variables n)) NoBits) (unless (is_part (bounds_of now n) selected) Size)

abbrev pub flaw_of : Environment → ExpressionTree → Option Flaw
flaw_of now (constant c) = None
flaw_of now (variable n) = None
flaw_of now (bit n index) = option_or (unless (has_bits (slice_get now.variables n)) NoBits) (flaw_of now index)
flaw_of now (bit_of v bounds index) = flaw_of now index  -- 4.10: every parameter has bits
flaw_of now (part n bounds) = part_flaw now n bounds
flaw_of now time = None
flaw_of now (conversion signed o) = flaw_of now o
flaw_of now (apply operator o) = flaw_of now o
flaw_of now (combine operator left right) = option_or (flaw_of now left) (flaw_of now right)
flaw_of now (conditional condition when_true when_false) =
    option_or (flaw_of now condition) (option_or (flaw_of now when_true) (flaw_of now when_false))
flaw_of now (joined left right) =  -- 5.1.14; at most 64 bits (own); a number without a size has 32 bits here, too (own)
    option_or (flaw_of now left) (option_or (flaw_of now right) (unless (nat_le (size_of now left + size_of now right) 64) Size))
flaw_of now (repeated count o) =  -- 5.1.14: at least once (own: it allows 0 times within a concatenation), at most 64 bits (own)
    option_or (flaw_of now o) (unless (nat_le 1 count && nat_le (count * size_of now o) 64) Size)

-- ---- targets

abbrev pub target_flaw : Environment → Target → Option Flaw
target_flaw now (target.Whole n) = None
target_flaw now (target.Bit n index) = option_or (unless (has_bits (slice_get now.variables n)) NoBits) (flaw_of now index)
target_flaw now (target.Part n selected) = part_flaw now n selected

abbrev pub first_target_flaw : Environment → List Target → Option Flaw
first_target_flaw now [] = None
first_target_flaw now (one ∷ more) = option_or (target_flaw now one) (first_target_flaw now more)

abbrev pub targets_flaw : Environment → List Target → Option Flaw
targets_flaw now targets =  -- 5.1.14; at most 64 bits (own)
    option_or (first_target_flaw now targets) (unless (nat_le (targets_size now targets) 64) Size)
