-- Bits that are known, one letter after another.
use Rattle.std.proofs.Common.{◌≡◌, ◌<◌, ◌≤◌, ◌+◌, ◌-◌, ◌*◌, ◌^◌, ℕ, zero, suc, Bool, true, false, cond, List, [], ◌∷◌, ◌++◌, length, drop, Some, append_assoc, sym, ap, ◌∙◌, arith}
use Rattle.std.specs.Prelude.{slice_get}
use Rattle.std.proofs.Math.Nat.{pow-suc}
use Rattle.std.proofs.lemmas.List.{length-drop}
use Rattle.vbits.specs.declared.bit4.Bit4.{Bit4}
use Rattle.vbits.specs.Letters.{is_one}
use Rattle.value_text.specs.ValueText.{byte_at, has_shown, known_bit, known_number, letter_of, letters_in}
use Rattle.value_text.proofs.LetterLemmas.{from}

bit_below : (test : Bool) → cond test 1 0 ≤ 1
bit_below true = omega arith
bit_below false = omega arith

known_below : (letters : List Bit4) → known_number letters < 2 ^ length letters
known_below [] = omega arith
known_below (letter ∷ letters) = omega (arith, known_below letters, bit_below (is_one letter), pow-suc 2 (length letters))

-- so few bits are less than half a byte's number
half : (k : ℕ) → k < 8 → 2 ^ k ≤ 128
half zero h = omega arith
half (suc zero) h = omega arith
half (suc (suc zero)) h = omega arith
half (suc (suc (suc zero))) h = omega arith
half (suc (suc (suc (suc zero)))) h = omega arith
half (suc (suc (suc (suc (suc zero))))) h = omega arith
half (suc (suc (suc (suc (suc (suc zero)))))) h = omega arith
half (suc (suc (suc (suc (suc (suc (suc zero))))))) h = omega arith
half (suc (suc (suc (suc (suc (suc (suc (suc k)))))))) h = omega (arith, h)

pub known_small : (letters : List Bit4) (i number : ℕ) → length letters ≤ 8 → 0 < i → i ≤ length letters →
    number ≡ known_number (drop i letters) → number < 128
known_small letters i number few some within is =
    let below : number < 2 ^ length (drop i letters) = omega (arith, is, known_below (drop i letters)) in
    omega (arith, below, half (length (drop i letters)) (omega (arith, few, some, within, length-drop i letters)))

pub known_bit_small : (letter : Bit4) (bit : ℕ) → bit ≡ known_bit letter → bit ≤ 1
known_bit_small letter bit is = omega (arith, is, bit_below (is_one letter))

-- one bit more
pub known_more : (letters : List Bit4) (i : ℕ) (letter : Bit4) (bit number : ℕ) → 0 < i → slice_get letters (i - 1) ≡ Some letter →
    bit ≡ known_bit letter → number ≡ known_number (drop i letters) → bit + 2 * number ≡ known_number (drop (i - 1) letters)
known_more letters zero letter bit number some at bit_is number_is = absurd (omega (arith, some))
known_more letters (suc j) letter bit number some at bit_is number_is =
    let less : suc j - 1 ≡ j = omega arith in
    let there : slice_get letters j ≡ Some letter = ap (λ k. slice_get letters k) (sym less) ∙ at in
    let next : suc j ≡ j + 1 = omega arith in
    ap (λ b. b + 2 * number) bit_is
    ∙ ap (λ n. known_bit letter + 2 * n) (number_is ∙ ap (λ k. known_number (drop k letters)) next)
    ∙ ap known_number (from letters j letter there)
    ∙ ap (λ k. known_number (drop k letters)) (sym less)

-- one byte more
pub letter_more : (letters : List Bit4) (n : ℕ) (items new whole : List ℕ) (is_behind is_next : Bool) (byte : ℕ) → 0 < n →
    items ++ letters_in is_behind n letters ≡ whole → byte ≡ byte_at (n - 1) letters → new ≡ items ++ letter_of is_behind byte →
    is_next ≡ has_shown is_behind byte → new ++ letters_in is_next (n - 1) letters ≡ whole
letter_more letters zero items new whole is_behind is_next byte some before is put next = absurd (omega (arith, some))
letter_more letters (suc m) items new whole is_behind is_next byte some before is put next =
    ap (λ k. new ++ letters_in is_next k letters) less
    ∙ ap (λ text. text ++ letters_in is_next m letters) put
    ∙ append_assoc items (letter_of is_behind byte) (letters_in is_next m letters)
    ∙ ap (λ t. items ++ (letter_of is_behind byte ++ letters_in t m letters)) next
    ∙ ap (λ b. items ++ (letter_of is_behind b ++ letters_in (has_shown is_behind b) m letters)) (is ∙ ap (λ k. byte_at k letters) less)
    ∙ before
  where
    less : suc m - 1 ≡ m
    less = omega arith
