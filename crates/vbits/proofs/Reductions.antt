-- Folds of the tables, by tests of the letters.
use Rattle.std.proofs.Common.{◌≡◌, ℕ, zero, suc, ◌+◌, ◌-◌, ◌*◌, ◌/◌, ◌%◌, ◌^◌, ◌<◌, true, not, cond, List, [], ◌∷◌, refl, sym, ◌∙◌, ap, arith, inl, inr}
use Rattle.std.specs.Prelude.{fold, bit_or, bit_xor, nat_eq, count_ones}
use Rattle.std.specs.List.{list_any}
use Rattle.std.proofs.lemmas.Bool.{ne_eqb}
use Rattle.std.proofs.lemmas.Nat.{ones_cat}
use Rattle.std.specs.Int.Count.{ones-ones}
use Rattle.vbits.specs.declared.bit4.Bit4.{Bit4}
use Rattle.vbits.specs.declared.bit4.Bit4.TheVariants.{Zero, One, X, Z}
use Rattle.vbits.specs.Letters.{is_unknown, is_one, and_letter, or_letter, xor_letter}
use Rattle.vbits.specs.Numbers.{digit}
use Rattle.vbits.specs.Planes.{letter, letters_of, Planes}
use Rattle.vbits.specs.PlanesBack.{bit_cases, half_within}
use Rattle.vbits.proofs.Wordwise.{any-letters_of, word_b}
use Rattle.vbits.proofs.Tables.{unknown_word, unknown_word-tells, one_word, one_word-words, one_word-tells, zero_word, zero_word-words, zero_word-tells, is_zero}
use Rattle.vbits.proofs.Operands.{alone}

and_zero : (xs : List Bit4) → fold and_letter Zero xs ≡ Zero
and_zero [] = refl
and_zero (x ∷ xs) = and_zero xs

and_x : (xs : List Bit4) → fold and_letter X xs ≡ cond (list_any is_zero xs) Zero X
and_x [] = refl
and_x (Zero ∷ xs) = and_zero xs
and_x (One ∷ xs) = and_x xs
and_x (X ∷ xs) = and_x xs
and_x (Z ∷ xs) = and_x xs

and_one : (xs : List Bit4) → fold and_letter One xs ≡ cond (list_any is_zero xs) Zero (cond (list_any is_unknown xs) X One)
and_one [] = refl
and_one (Zero ∷ xs) = and_zero xs
and_one (One ∷ xs) = and_one xs
and_one (X ∷ xs) = and_x xs
and_one (Z ∷ xs) = and_x xs

or_one : (xs : List Bit4) → fold or_letter One xs ≡ One
or_one [] = refl
or_one (x ∷ xs) = or_one xs

or_x : (xs : List Bit4) → fold or_letter X xs ≡ cond (list_any is_one xs) One X
or_x [] = refl
or_x (Zero ∷ xs) = or_x xs
or_x (One ∷ xs) = or_one xs
or_x (X ∷ xs) = or_x xs
or_x (Z ∷ xs) = or_x xs

pub or_zero : (xs : List Bit4) → fold or_letter Zero xs ≡ cond (list_any is_one xs) One (cond (list_any is_unknown xs) X Zero)
or_zero [] = refl
or_zero (Zero ∷ xs) = or_zero xs
or_zero (One ∷ xs) = or_one xs
or_zero (X ∷ xs) = or_x xs
or_zero (Z ∷ xs) = or_x xs

xor_x : (xs : List Bit4) → fold xor_letter X xs ≡ X
xor_x [] = refl
xor_x (x ∷ xs) = xor_x xs

xor_unknown : (l : Bit4) (xs : List Bit4) → list_any is_unknown xs ≡ true → fold xor_letter l xs ≡ X
xor_unknown l [] h = absurd cc
xor_unknown Zero (Zero ∷ xs) h = xor_unknown Zero xs h
xor_unknown Zero (One ∷ xs) h = xor_unknown One xs h
xor_unknown Zero (X ∷ xs) h = xor_x xs
xor_unknown Zero (Z ∷ xs) h = xor_x xs
xor_unknown One (Zero ∷ xs) h = xor_unknown One xs h
xor_unknown One (One ∷ xs) h = xor_unknown Zero xs h
xor_unknown One (X ∷ xs) h = xor_x xs
xor_unknown One (Z ∷ xs) h = xor_x xs
xor_unknown X (x ∷ xs) h = xor_x xs
xor_unknown Z (x ∷ xs) h = xor_x xs

ones_bit : (v : ℕ) → count_ones (v % 2) ≡ v % 2
ones_bit v = elim (bit_cases v) [ inl e ↦ rw e (ones-ones 0) | inr e ↦ rw e (ones-ones 1) ]

ones_half : (v : ℕ) → count_ones v ≡ count_ones (v / 2) + v % 2
ones_half v =
    let whole : v / 2 * 2 + v % 2 ≡ v = omega arith in
    ap count_ones (sym whole) ∙ ones_cat 1 (v / 2) (v % 2) (omega arith) ∙ ap (λ k. count_ones (v / 2) + k) (ones_bit v)

xor_digit : (p v : ℕ) → xor_letter (digit (p % 2)) (letter (v % 2) 0) ≡ digit ((p + v % 2) % 2)
xor_digit p v =
    elim (bit_cases p) [
      | inl e ↦ elim (bit_cases v) [
        | inl f ↦ let s : (p + 0) % 2 ≡ 0 = omega arith in rw (e, f, s) refl
        | inr f ↦ let s : (p + 1) % 2 ≡ 1 = omega arith in rw (e, f, s) refl
      ]
      | inr e ↦ elim (bit_cases v) [
        | inl f ↦ let s : (p + 0) % 2 ≡ 1 = omega arith in rw (e, f, s) refl
        | inr f ↦ let s : (p + 1) % 2 ≡ 0 = omega arith in rw (e, f, s) refl
      ]
    ]

pub xor_known : (n v p : ℕ) → v < 2 ^ n → fold xor_letter (digit (p % 2)) (letters_of n v 0) ≡ digit ((p + count_ones v) % 2)
xor_known zero v p h =
    let none : v ≡ 0 = omega arith in
    let same : p + count_ones v ≡ p = omega (arith, ap count_ones none, ones-ones 0) in
    ap (λ k. digit (k % 2)) (sym same)
xor_known (suc n) v p h =
    let same : p + v % 2 + count_ones (v / 2) ≡ p + count_ones v = omega (arith, ones_half v) in
    ap (λ l. fold xor_letter l (letters_of n (v / 2) 0)) (xor_digit p v)
    ∙ xor_known n (v / 2) (p + v % 2) (half_within n v h)
    ∙ ap (λ k. digit (k % 2)) same

pub parity-known : (n v : ℕ) → v < 2 ^ n → fold xor_letter Zero (letters_of n v 0) ≡ digit (count_ones v % 2)
parity-known n v h = xor_known n v 0 h ∙ ap (λ k. digit (k % 2)) (omega arith)

-- ---- by the words

unknown_any : (n a b : ℕ) → Planes n a b → list_any is_unknown (letters_of n a b) ≡ not (nat_eq b 0)
unknown_any n a b h = any-letters_of is_unknown unknown_word word_b unknown_word-tells n a b (alone n a b h)

pub all-words : (n a b : ℕ) → Planes n a b → fold and_letter One (letters_of n a b) ≡
    cond (not (nat_eq (bit_xor (bit_or a b) (2 ^ n - 1)) 0)) Zero (cond (not (nat_eq b 0)) X One)
all-words n a b h =
    and_one (letters_of n a b)
    ∙ rw (any-letters_of is_zero zero_word zero_word-words zero_word-tells n a b (alone n a b h), unknown_any n a b h) refl

pub truth-words : (n a b : ℕ) → Planes n a b → cond (list_any is_one (letters_of n a b)) One (cond (list_any is_unknown (letters_of n a b)) X Zero) ≡
    cond (not (nat_eq (bit_xor (bit_or a b) b) 0)) One (cond (not (nat_eq b 0)) X Zero)
truth-words n a b h =
    rw (any-letters_of is_one one_word one_word-words one_word-tells n a b (alone n a b h), unknown_any n a b h) refl

pub parity-unknown : (n a b : ℕ) → Planes n a b → (b ≡ 0 → ⊥) → fold xor_letter Zero (letters_of n a b) ≡ X
parity-unknown n a b h ne = xor_unknown Zero (letters_of n a b) (rw (unknown_any n a b h, ne_eqb b 0 ne) refl)
