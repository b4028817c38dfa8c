-- A part whose bits are all a variable's, and go the same way: a slice of the variable's letters.
use Rattle.std.proofs.Common.{◌≡◌, ℕ, zero, suc, ◌+◌, ◌-◌, ◌<◌, ◌≤◌, nat_le, cond, Bool, true, false, ◌&&◌, List, [], ◌∷◌, ◌++◌, length, take, drop, get_or, Some, None, refl, sym, ap, ◌∙◌, length-drop, arith}
use Rattle.std.proofs.lemmas.Bool.{leb-true, leb-false, le-leb, lt-leb}
use Rattle.std.proofs.lemmas.List.{get_or-drop}
use Rattle.std.proofs.lemmas.Option.{unwrap_or-slice_get}
use Rattle.std.proofs.Math.Seq.{take-suc}
use Rattle.vbits.specs.declared.bit4.Bit4.{Bit4}
use Rattle.vbits.specs.declared.bit4.Bit4.TheVariants.{X}
use Rattle.vbits.specs.Vectors.{Vector, select}
use Rattle.vdesign.specs.declared.expression.Bounds.{Bounds}
use Rattle.vvalue.specs.Value.{place_in, letter_at, bit_letter, number_of_bit, part_letters, part_of, part_size}

module _ (bounds : Bounds) where
  -- where the bit of a number stands, where numbers fall towards the right, and where they rise
  falls_to : (number place : ℕ) → bounds.right ≤ bounds.left → bounds.right ≤ number → number ≤ bounds.left → number ≡ place + bounds.right →
      place_in bounds number ≡ Some place
  falls_to number place falls low high is =
      let down = le-leb bounds.right bounds.left falls in
      let first = le-leb bounds.right number low in
      let last = le-leb number bounds.left high in
      let far : number - bounds.right ≡ place = omega (arith, is) in
      (λ i. cond (down i) (cond (first i && last i) (Some (number - bounds.right)) None)
      (cond (nat_le bounds.left number && nat_le number bounds.right) (Some (bounds.right - number)) None))
      ∙ ap Some far

  rises_to : (number place : ℕ) → bounds.left < bounds.right → bounds.left ≤ number → number ≤ bounds.right → number + place ≡ bounds.right →
      place_in bounds number ≡ Some place
  rises_to number place rises low high is =
      let up = lt-leb bounds.right bounds.left rises in
      let first = le-leb bounds.left number low in
      let last = le-leb number bounds.right high in
      let far : bounds.right - number ≡ place = omega (arith, is) in
      (λ i. cond (up i) (cond (nat_le bounds.right number && nat_le number bounds.left) (Some (number - bounds.right)) None)
      (cond (first i && last i) (Some (bounds.right - number)) None))
      ∙ ap Some far

  -- and back
  record Falls (number place : ℕ) : Type 0 where
    pub low : bounds.right ≤ number
    pub high : number ≤ bounds.left
    pub is : number ≡ place + bounds.right

  record Rises (number place : ℕ) : Type 0 where
    pub low : bounds.left ≤ number
    pub high : number ≤ bounds.right
    pub is : number + place ≡ bounds.right

  falls_from : (number place : ℕ) → bounds.right ≤ bounds.left → place_in bounds number ≡ Some place → Falls number place
  falls_from number place falls at = by (nat_le bounds.right number) (nat_le number bounds.left) refl refl (sym step ∙ at)
    where
      step : place_in bounds number ≡ cond (nat_le bounds.right number && nat_le number bounds.left) (Some (number - bounds.right)) None
      step = λ i. cond (le-leb bounds.right bounds.left falls i) (cond (nat_le bounds.right number && nat_le number bounds.left) (Some (number - bounds.right)) None)
          (cond (nat_le bounds.left number && nat_le number bounds.right) (Some (bounds.right - number)) None)

      by : (a b : Bool) → nat_le bounds.right number ≡ a → nat_le number bounds.left ≡ b →
          cond (a && b) (Some (number - bounds.right)) None ≡ Some place → Falls number place
      by true true low high is =
          let from = leb-true bounds.right number low in
          let to = leb-true number bounds.left high in
          let far : number - bounds.right ≡ place = cc in
          record { low = from; high = to; is = omega (arith, from, far) }
      by true false low high is = cc
      by false b low high is = cc

  rises_from : (number place : ℕ) → bounds.left < bounds.right → place_in bounds number ≡ Some place → Rises number place
  rises_from number place rises at = by (nat_le bounds.left number) (nat_le number bounds.right) refl refl (sym step ∙ at)
    where
      step : place_in bounds number ≡ cond (nat_le bounds.left number && nat_le number bounds.right) (Some (bounds.right - number)) None
      step = λ i. cond (lt-leb bounds.right bounds.left rises i) (cond (nat_le bounds.right number && nat_le number bounds.left) (Some (number - bounds.right)) None)
          (cond (nat_le bounds.left number && nat_le number bounds.right) (Some (bounds.right - number)) None)

      by : (a b : Bool) → nat_le bounds.left number ≡ a → nat_le number bounds.right ≡ b →
          cond (a && b) (Some (bounds.right - number)) None ≡ Some place → Rises number place
      by true true low high is =
          let from = leb-true bounds.left number low in
          let to = leb-true number bounds.right high in
          let far : bounds.right - number ≡ place = cc in
          record { low = from; high = to; is = omega (arith, to, far) }
      by true false low high is = cc
      by false b low high is = cc

module _ (bounds part : Bounds) (high low : ℕ) (left : place_in bounds part.left ≡ Some high) (right : place_in bounds part.right ≡ Some low) (order : low ≤ high) (few : high - low < 64) where
  record Reads : Type 0 where
    pub size : part_size part ≡ high + 1 - low
    pub each : (j : ℕ) → j ≤ high - low → place_in bounds (number_of_bit part j) ≡ Some (low + j)

  reads : Reads
  reads = by (nat_le bounds.right bounds.left) refl
    where
      falling : bounds.right ≤ bounds.left → Reads
      falling falls =
          let l = falls_from bounds part.left high falls left in
          let r = falls_from bounds part.right low falls right in
          let down : part.right ≤ part.left = omega (arith, l.is, r.is, order) in
          record {
            size = omega (arith, l.is, r.is, order, few);
            each = λ j within.
                (λ i. place_in bounds (cond (le-leb part.right part.left down i) (part.right + j) (part.right - j)))
                ∙ falls_to bounds (part.right + j) (low + j) falls (omega (arith, r.low)) (omega (arith, within, l.is, r.is, l.high, order)) (omega (arith, r.is));
          }

      rising : bounds.left < bounds.right → Reads
      rising rises =
          let l = rises_from bounds part.left high rises left in
          let r = rises_from bounds part.right low rises right in
          record {
            size = omega (arith, l.is, r.is, order, few);
            each = λ j within. either j within (nat_le part.right part.left) refl;
          }
        where
          either : (j : ℕ) → j ≤ high - low → (b : Bool) → nat_le part.right part.left ≡ b →
              place_in bounds (cond b (part.right + j) (part.right - j)) ≡ Some (low + j)
          either j within true down =
              let l = rises_from bounds part.left high rises left in
              let r = rises_from bounds part.right low rises right in
              let one = leb-true part.right part.left down in
              rises_to bounds (part.right + j) (low + j) rises (omega (arith, r.low)) (omega (arith, within, l.is, r.is, one, r.high)) (omega (arith, within, l.is, r.is, one))
          either j within false up =
              let l = rises_from bounds part.left high rises left in
              let r = rises_from bounds part.right low rises right in
              rises_to bounds (part.right - j) (low + j) rises (omega (arith, within, l.is, r.is, l.low, order)) (omega (arith, r.high)) (omega (arith, within, l.is, r.is, order))

      by : (b : Bool) → nat_le bounds.right bounds.left ≡ b → Reads
      by true e = falling (leb-true bounds.right bounds.left e)
      by false e = rising (leb-false bounds.right bounds.left e)

  module _ (v : Vector) (within : high < length v.letters) where
    letters_are : (count : ℕ) → count ≤ high + 1 - low → part_letters v bounds part count ≡ take count (drop low v.letters)
    letters_are zero few_more = refl
    letters_are (suc count) few_more =
        let reach : count ≤ high - low = omega (arith, few_more, order) in
        let rest = length-drop low v.letters in
        let inside : count < length (drop low v.letters) = omega (arith, rest, reach, within, order) in
        let letter : bit_letter v bounds (number_of_bit part count) ≡ get_or (drop low v.letters) count X =
        ap (letter_at v) (reads.each count reach) ∙ unwrap_or-slice_get v.letters (low + count) X ∙ sym (get_or-drop low v.letters count X) in
        (λ i. letters_are count (omega (arith, few_more)) i ++ letter i ∷ []) ∙ sym (take-suc (drop low v.letters) count X inside)

    pub slice_is : part_of v bounds part (part_size part) ≡ select v high low
    unfolding select
    slice_is =
        ap (λ (letters : List Bit4). record { letters = letters; signed = false })
        (ap (part_letters v bounds part) reads.size ∙ letters_are (high + 1 - low) (omega arith))
