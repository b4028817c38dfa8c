-- *internal*: What it means to write a part of a variable (IEEE 1364-2005, 5.2.1); `run_law` proves it.
use Rattle.std.specs.Prelude.{◌≡◌, ℕ, suc, ◌-◌, ◌<◌, max, min, true, List, length, slice_get, Option, None, Some}
use Rattle.vbits.specs.declared.bit4.Bit4.{Bit4}
use Rattle.vdesign.specs.declared.expression.Bounds.{Bounds}
use Rattle.vdesign.specs.declared.action.Target.TheVariants.{Part}
use Rattle.vvalue.specs.Value.{Environment, bounds_of, place_in}
use Rattle.vvalue.specs.Flaws.{in_order}
use Rattle.vmodel.specs.Parts.{value_in, with_parts}
use Rattle.vmodel.specs.Value.{parts_of}

-- how many bits stand between two numbers, with them
abbrev pub span : Bounds → ℕ
span bounds = suc (max bounds.left bounds.right - min bounds.left bounds.right)

-- the letter of a bit by its place among those that are written, where it is one of them
abbrev pub letter_after : List Bit4 → Option Bit4 → Option ℕ → Option Bit4
letter_after letters old None = old
letter_after letters old (Some place) = slice_get letters place

-- after a part is written, each bit of its variable that is selected has the letter that is given for it, and each other bit has the
-- letter that it had
abbrev pub WritesEachBit : Type 0
WritesEachBit = (now : Environment) (n : ℕ) (selected : Bounds) (letters : List Bit4) (number place : ℕ) →
    let declared = bounds_of now n in
    let old = (value_in now.values n).letters in
    let new = (value_in (with_parts (parts_of now (Part n selected) letters) now.values) n).letters in
    n < length now.values → in_order declared selected ≡ true → length old ≡ span declared → length letters ≡ span selected →
    place_in declared number ≡ Some place → slice_get new place ≡ letter_after letters (slice_get old place) (place_in selected number)
