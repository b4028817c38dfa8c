-- *trusted*: What an assignment writes to (IEEE 1364-2005, 5.1.14, 5.2.1, 6.2): how many bits its targets have, and which bits of their
-- variables these are.
use Rattle.std.specs.Prelude.{ℕ, ◌+◌, ◌-◌, nat_lt, nat_le, min, Bool, if◌then◌else◌, ◌&&◌, List, [], ◌∷◌, length, slice_get, Option, None, Some, option_and_then}
use Rattle.vbits.specs.Vectors.{Vector}
use Rattle.vdesign.specs.declared.expression.Bounds.{Bounds}
use Rattle.vdesign.specs.Expressions.{ExpressionTree}
use Rattle.vdesign.specs.declared.action.Target.{Target}
use Rattle.vdesign.specs.declared.action.Target.TheVariants.{Whole, Bit, Part}
use Rattle.vvalue.specs.declared.target.Span.{Span}
use Rattle.vvalue.specs.Value.{Environment, value_at, bounds_of, place_in, index_in, part_size, self_determined_value}

abbrev pub target_size : Environment → Target → ℕ
target_size now (Whole n) = length (value_at now n).letters
target_size now (Bit n index) = 1
target_size now (Part n selected) = part_size selected

-- those of a concatenation together
abbrev pub targets_size : Environment → List Target → ℕ
targets_size now [] = 0
targets_size now (target ∷ more) = target_size now target + targets_size now more

-- how far the bit `name[index]` stands from the rightmost; there is none where the index is unknown, negative or out of range
abbrev pub place_at : Environment → ℕ → ExpressionTree → Option ℕ
place_at now n index = option_and_then (place_in (bounds_of now n)) (index_in (self_determined_value now index))

-- whether numbers fall from left to right
abbrev pub falls : Bounds → Bool
falls bounds = nat_le bounds.right bounds.left

-- 5.2.1: whether bounds fall both in what is declared and in a part of it. Of a single bit, `[3:3]`, it is said in both orders, so the other
-- bounds decide
abbrev pub both_fall : Bounds → Bounds → Bool
both_fall declared selected = falls declared && falls selected

-- how far the bit of one number stands to the left of that of another, where numbers fall from left to right or rise; 0 where it
-- doesn't
abbrev pub leftwards : Bool → ℕ → ℕ → ℕ
leftwards falling number from = if falling then number - from else from - number

-- the variable that a target is of
abbrev pub variable_of : Target → ℕ
variable_of (Whole n) = n
variable_of (Bit n index) = n
variable_of (Part n selected) = n

-- how many bits a variable has, if there is one
abbrev pub size_if : Option Vector → ℕ
size_if None = 0
size_if (Some v) = length v.letters

abbrev pub variable_size : Environment → ℕ → ℕ
variable_size now n = size_if (slice_get now.values n)

-- of so many bits from a place on those that a variable of this size has
abbrev pub within : ℕ → ℕ → ℕ → Span
within size low count = record { low = low; count = min count (size - low) }

abbrev pub span_at : ℕ → Option ℕ → Span
span_at size None = record { low = 0; count = 0 }
span_at size (Some place) = if nat_lt place size then record { low = place; count = 1 } else record { low = 0; count = 0 }

-- 5.2.1: the bits of its variable that a target stands for; those that the variable hasn't are left out
abbrev pub span_of : Environment → Target → Span
span_of now (Whole n) = record { low = 0; count = variable_size now n }
span_of now (Bit n index) = span_at (variable_size now n) (place_at now n index)
span_of now (Part n selected) =
    let bounds = bounds_of now n in
    let falling = both_fall bounds selected in
    within (variable_size now n) (leftwards falling selected.right bounds.right) (part_size selected - leftwards falling bounds.right selected.right)
