-- Keys: their bounds, and that no two values have the same.
use Rattle.std.proofs.Common.{◌≡◌, ℕ, zero, suc, ◌+◌, ◌*◌, ◌^◌, ◌<◌, ◌≤◌, cond, Bool, true, false, List, [], ◌∷◌, length, drop, slice_get, Some, refl, sym, ap, ◌∙◌, arith, length-drop}
use Rattle.basis.proofs.Lists.{drop_at_place}
use Rattle.vbits.specs.declared.bit4.Bit4.{Bit4}
use Rattle.vbits.specs.declared.bit4.Bit4.TheVariants.{Zero, One, X, Z}
use Rattle.vbits.specs.Vectors.{Vector}
use Rattle.racebook.specs.Order.{digit_of, text_number}
use Rattle.racebook.specs.Inner.{key_of}

pub digit_small : (letter : Bit4) → digit_of letter ≤ 3
digit_small Zero = omega arith
digit_small One = omega arith
digit_small X = omega arith
digit_small Z = omega arith

abbrev letter_of : ℕ → Bit4
letter_of zero = Zero
letter_of (suc zero) = One
letter_of (suc (suc zero)) = X
letter_of (suc (suc (suc n))) = Z

letter_back : (letter : Bit4) → letter_of (digit_of letter) ≡ letter
letter_back Zero = refl
letter_back One = refl
letter_back X = refl
letter_back Z = refl

digit_tells : (a b : Bit4) → digit_of a ≡ digit_of b → a ≡ b
digit_tells a b e = sym (letter_back a) ∙ ap letter_of e ∙ letter_back b

low_same : (d e m n : ℕ) → d ≤ 3 → e ≤ 3 → d + 4 * m ≡ e + 4 * n → d ≡ e
low_same d e m n hd he h = omega arith

high_same : (d e m n : ℕ) → d ≤ 3 → e ≤ 3 → d + 4 * m ≡ e + 4 * n → m ≡ n
high_same d e m n hd he h = omega arith

pub text_tells : (xs ys : List Bit4) → length xs ≡ length ys → text_number xs ≡ text_number ys → xs ≡ ys
text_tells [] [] l e = refl
text_tells [] (y ∷ ys) l e = absurd (omega arith)
text_tells (x ∷ xs) [] l e = absurd (omega arith)
text_tells (x ∷ xs) (y ∷ ys) l e =
    let hx = digit_small x in
    let hy = digit_small y in
    let first : x ≡ y = digit_tells x y (low_same (digit_of x) (digit_of y) (text_number xs) (text_number ys) hx hy e) in
    let same : length xs ≡ length ys = omega arith in
    let rest : xs ≡ ys = text_tells xs ys same (high_same (digit_of x) (digit_of y) (text_number xs) (text_number ys) hx hy e) in
    cc

double_same : (a b : ℕ) (s t : Bool) → 2 * a + cond s 1 0 ≡ 2 * b + cond t 1 0 → (a ≡ b) × (s ≡ t)
double_same a b true true e = (omega arith, refl)
double_same a b true false e = absurd (omega arith)
double_same a b false true e = absurd (omega arith)
double_same a b false false e = (omega arith, refl)

pub key_tells : (v w : Vector) → key_of v ≡ key_of w → v ≡ w
key_tells v w e =
    let shapes = double_same (length v.letters) (length w.letters) v.signed w.signed (ap (λ (k : ℕ × ℕ). k.0) e) in
    let letters : v.letters ≡ w.letters = text_tells v.letters w.letters shapes.0 (ap (λ (k : ℕ × ℕ). k.1) e) in
    λ i. record { letters = letters i; signed = shapes.1 i }

grows : (d t p : ℕ) → d ≤ 3 → t < p → d + 4 * t < 4 * p
grows d t p hd ht = omega arith

some_power : (n : ℕ) → 0 < 4 ^ n
some_power zero = omega arith
some_power (suc n) = let h = some_power n in omega arith

pub text_small : (n : ℕ) (xs : List Bit4) → length xs ≤ n → text_number xs < 4 ^ n
text_small n [] l = some_power n
text_small zero (x ∷ xs) l = absurd (omega arith)
text_small (suc n) (x ∷ xs) l =
    let shorter : length xs ≤ n = omega arith in
    let p : digit_of x + 4 * text_number xs < 4 * 4 ^ n = grows (digit_of x) (text_number xs) (4 ^ n) (digit_small x) (text_small n xs shorter) in
    omega arith

-- one more digit
pub number_more : (xs : List Bit4) (i : ℕ) (x : Bit4) → slice_get xs i ≡ Some x → text_number (drop i xs) ≡ digit_of x + 4 * text_number (drop (suc i) xs)
number_more xs i x e = ap text_number (drop_at_place xs i x e)

-- the step of the loop over digits
pub number_step : (xs : List Bit4) (i left number d : ℕ) (x : Bit4) → slice_get xs i ≡ Some x → left ≡ suc i → number ≡ text_number (drop left xs) → d ≡ digit_of x →
    d + 4 * number ≡ text_number (drop i xs)
number_step xs i left number d x at next is digit =
    let there : number ≡ text_number (drop (suc i) xs) = is ∙ ap (λ k. text_number (drop k xs)) next in
    let more : text_number (drop i xs) ≡ digit_of x + 4 * text_number (drop (suc i) xs) = number_more xs i x at in
    omega arith

pub rest_small : (xs : List Bit4) (i : ℕ) → length xs ≤ 64 → text_number (drop i xs) < 340282366920938463463374607431768211456
rest_small xs i few = let e = length-drop i xs in let short : length (drop i xs) ≤ 64 = omega arith in text_small 64 (drop i xs) short
