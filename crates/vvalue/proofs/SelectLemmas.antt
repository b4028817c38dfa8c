-- Signs of indices, and how many letters parts and concatenations have.
use Rattle.std.proofs.Common.{◌≡◌, ◌≤◌, ◌<◌, ℕ, zero, suc, ◌+◌, ◌-◌, min, true, false, cond, List, [], ◌∷◌, ◌++◌, length, take, replicate, get_or, slice_get, Some, refl, sym, ap, ◌∙◌, length-append, arith}
use Rattle.std.proofs.lemmas.List.{take-append-le}
use Rattle.std.proofs.lemmas.Option.{unwrap_or-slice_get}
use Rattle.std.proofs.Math.Seq.{take-append_seam, take-append-add}
use Rattle.std.specs.Prelude.{unwrap_or}
use Rattle.vbits.specs.declared.bit4.Bit4.{Bit4}
use Rattle.vbits.specs.declared.bit4.Bit4.TheVariants.{Zero}
use Rattle.vbits.specs.Letters.{is_one}
use Rattle.vbits.specs.Vectors.{Vector, resize, with_sign, sign_letter, single, concat}
use Rattle.vdesign.specs.declared.expression.Bounds.{Bounds}
use Rattle.vvalue.specs.Value.{bit_letter, number_of_bit, part_letters, part_of, joined_value}
use Rattle.vvalue.proofs.Lengths.{resized_length}

-- ---- signs

pub unsigned_is_not : (v : Vector) → v.signed ≡ false → false ≡ is_one (sign_letter v)
unfolding sign_letter
unsigned_is_not v e = sym (ap (λ b. is_one (cond b (get_or v.letters (length v.letters - 1) Zero) Zero)) e)

pub signed_is : (v : Vector) (n : ℕ) (l : Bit4) → v.signed ≡ true → n ≡ length v.letters → slice_get v.letters (n - 1) ≡ Some l →
    is_one l ≡ is_one (sign_letter v)
unfolding sign_letter
signed_is v n l marked len at =
    sym (ap (λ b. is_one (cond b (get_or v.letters (length v.letters - 1) Zero) Zero)) marked
    ∙ ap is_one (ap (λ k. get_or v.letters (k - 1) Zero) (sym len) ∙ sym (unwrap_or-slice_get v.letters (n - 1) Zero) ∙ ap (λ o. unwrap_or o Zero) at))

-- ---- parts

pub part_length : (v : Vector) (bounds selected : Bounds) (count : ℕ) → length (part_letters v bounds selected count) ≡ count
part_length v bounds selected zero = refl
part_length v bounds selected (suc count) =
    let before = part_length v bounds selected count in
    let both = length-append (part_letters v bounds selected count) (bit_letter v bounds (number_of_bit selected count) ∷ []) in
    omega (arith, before, both)

module _ (v : Vector) (bounds selected : Bounds) where
  pub part_starts : (read : Vector) (letter : Bit4) → letter ≡ bit_letter v bounds (number_of_bit selected 0) → read ≡ single letter →
      read ≡ part_of v bounds selected 1
  unfolding single
  part_starts read letter is made = made ∙ ap single is

  pub part_goes_on : (read one next : Vector) (letter : Bit4) (count : ℕ) → read ≡ part_of v bounds selected count →
      letter ≡ bit_letter v bounds (number_of_bit selected count) → one ≡ single letter → next ≡ concat one read →
      next ≡ part_of v bounds selected (count + 1)
  unfolding single concat
  part_goes_on read one next letter count so_far is made put =
      let after : suc count ≡ count + 1 = omega (arith) in
      put ∙ ap (λ (w : Vector). concat w read) (made ∙ ap single is)
      ∙ ap (concat (single (bit_letter v bounds (number_of_bit selected count)))) so_far ∙ ap (part_of v bounds selected) after

  pub part_fits : (read one : Vector) (letter : Bit4) (count size : ℕ) → read ≡ part_of v bounds selected count →
      one ≡ single letter → count < size → size ≤ 64 → length one.letters + length read.letters ≤ 64
  unfolding single
  part_fits read one letter count size so_far made below few =
      let first : length one.letters ≡ 1 = ap (λ (w : Vector). length w.letters) made in
      let rest : length read.letters ≡ count = ap (λ (w : Vector). length w.letters) so_far ∙ part_length v bounds selected count in
      omega (arith, first, rest, below, few)

-- ---- concatenations

module _ (v w : Vector) where
  pub joined_full : (result : Vector) (n : ℕ) → n ≡ length w.letters → n ≤ 64 → 64 - n ≡ 0 → result ≡ with_sign w false → result ≡ joined_value v w
  unfolding with_sign
  joined_full result n len few none is =
      let whole : length w.letters ≡ 64 = omega (arith, len, few, none) in
      is ∙ ap (λ (letters : List Bit4). record { letters = letters; signed = false })
      (sym (take-append_seam w.letters v.letters) ∙ ap (λ (k : ℕ). take k (w.letters ++ v.letters)) whole)

  cut : (m n : ℕ) (xs : List Bit4) → m ≡ min (length xs) n → take m xs ≡ take n xs
  cut zero zero xs e = refl
  cut zero (suc n) [] e = refl
  cut zero (suc n) (x ∷ xs) e = absurd (omega (arith, e))
  cut (suc m) zero xs e = absurd (omega (arith, e))
  cut (suc m) (suc n) [] e = absurd (omega (arith, e))
  cut (suc m) (suc n) (x ∷ xs) e = ap (λ (ys : List Bit4). x ∷ ys) (cut m n xs (omega (arith, e)))

  pub joined_cut : (left result : Vector) (n m : ℕ) → n ≡ length w.letters → n ≤ 64 → m ≡ min (length v.letters) (64 - n) →
      left ≡ resize v m → result ≡ concat left w → result ≡ joined_value v w
  unfolding resize concat
  joined_cut left result n m len few least cuts is =
      let room : length w.letters + (64 - n) ≡ 64 = omega (arith, len, few) in
      let within : m ≤ length v.letters = omega (arith, least) in
      is ∙ ap (λ (u : Vector). concat u w) cuts
      ∙ ap (λ (letters : List Bit4). record { letters = w.letters ++ letters; signed = false })
      (take-append-le m v.letters (replicate m (sign_letter v)) within ∙ cut m (64 - n) v.letters least)
      ∙ ap (λ (letters : List Bit4). record { letters = letters; signed = false })
      (sym (take-append-add w.letters v.letters (64 - n)) ∙ ap (λ (k : ℕ). take k (w.letters ++ v.letters)) room)

  pub joined_fits : (left : Vector) (n m : ℕ) → n ≡ length w.letters → n ≤ 64 → m ≡ min (length v.letters) (64 - n) →
      left ≡ resize v m → length left.letters + length w.letters ≤ 64
  joined_fits left n m len few least cuts =
      let has : length left.letters ≡ m = ap (λ (u : Vector). length u.letters) cuts ∙ resized_length v m in
      omega (arith, len, few, least, has)
