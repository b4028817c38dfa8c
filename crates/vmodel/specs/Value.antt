-- *trusted*: What assignments write (IEEE 1364-2005, 5.1.14, 5.2.1, 5.4.1, 6.2).
use Rattle.std.specs.Prelude.{ℕ, ◌-◌, nat_le, min, max, false, if◌then◌else◌, List, [], ◌∷◌, ◌++◌, length, take, drop, Option, None, Some}
use Rattle.vbits.specs.declared.bit4.Bit4.{Bit4}
use Rattle.vbits.specs.Vectors.{Vector, resize}
use Rattle.vdesign.specs.Expressions.{ExpressionTree}
use Rattle.vdesign.specs.declared.action.Target.{Target}
use Rattle.vdesign.specs.declared.action.Target.TheVariants.{Whole, Bit, Part as PartTarget}
use Rattle.vvalue.specs.Value.{Environment, value_at, bounds_of, right_side}
use Rattle.vvalue.specs.Targets.{target_size, targets_size, place_at, both_fall, leftwards}
use Rattle.vmodel.specs.declared.part.Part.{Part}
use Rattle.vmodel.specs.declared.part.Part.TheVariants.{Whole as WholePart, Bits}

-- the bits of a variable from a place on get these letters, if there are any
abbrev pub some_bits : ℕ → ℕ → List Bit4 → List Part
some_bits n low [] = []
some_bits n low (b ∷ bs) = Bits n low (record { letters = b ∷ bs; signed = false }) ∷ []

-- 5.2.1: of letters for the bits from a place on, as many are written as the variable has
abbrev pub bits_from : ℕ → Vector → ℕ → List Bit4 → List Part
bits_from n old low letters = some_bits n low (take (length old.letters - low) letters)

abbrev pub bits_at : ℕ → Vector → Option ℕ → List Bit4 → List Part
bits_at n old None letters = []
bits_at n old (Some place) letters = bits_from n old place letters

-- what a target gets of its letters: a whole variable keeps its sign mark; of a part, the letters right of the variable's rightmost
-- bit are dropped
abbrev pub parts_of : Environment → Target → List Bit4 → List Part
parts_of now (Whole n) letters = WholePart n (record { letters = letters; signed = (value_at now n).signed }) ∷ []
parts_of now (Bit n index) letters = bits_at n (value_at now n) (place_at now n index) letters
parts_of now (PartTarget n selected) letters =
    let bounds = bounds_of now n in
    let falling = both_fall bounds selected in
    bits_from n (value_at now n) (leftwards falling selected.right bounds.right) (drop (leftwards falling bounds.right selected.right) letters)

-- 5.1.14: each target gets as many letters as it has bits, the rightmost one the rightmost letters
abbrev pub shared_parts : Environment → List Target → List Bit4 → List Part
shared_parts now [] letters = []
shared_parts now (target ∷ more) letters =
    parts_of now target (take (target_size now target) (drop (targets_size now more) letters)) ++ shared_parts now more letters

-- what the targets get of a value of as many bits as they have together. More than 64 bits are no design's (E306), and are not
-- written
abbrev pub given_parts : Environment → List Target → Vector → List Part
given_parts now targets value = if nat_le (targets_size now targets) 64 then shared_parts now targets value.letters else []

-- 5.4.1, 5.5.3, 6.2: the parts that an assignment writes: the right side, cut or extended to the bits of all targets together, is
-- shared among them
abbrev pub assigned_parts : Environment → List Target → ExpressionTree → List Part
assigned_parts now targets e = given_parts now targets (right_side now (targets_size now targets) e)

-- 9.7.7: the value that a suspended assignment holds: its right side, at the bits of all targets together; 1 to 64, as values have
abbrev pub held_value : Environment → List Target → ExpressionTree → Vector
held_value now targets e = right_side now (max 1 (min 64 (targets_size now targets))) e

-- 11.6.3: the parts that it writes when its time has come, to the targets as they are then; nothing, where none is held
abbrev pub resumed_parts : Environment → List Target → Option Vector → List Part
resumed_parts now targets None = []
resumed_parts now targets (Some value) = given_parts now targets (resize value (targets_size now targets))
