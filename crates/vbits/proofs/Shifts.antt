-- Planes that are shifted.
use Rattle.std.proofs.Common.{◌≡◌, ℕ, ◌+◌, ◌-◌, ◌*◌, ◌/◌, ◌%◌, ◌^◌, ◌<◌, ◌≤◌, take, drop, replicate, [], ◌++◌, sym, ◌∙◌, ap, arith, subst}
use Rattle.std.specs.Prelude.{bit_and, Some}
use Rattle.std.proofs.Math.Pow.{mod-mod-pow}
use Rattle.std.proofs.lemmas.Nat.{and_mask, pow_pos, shr_below}
use Rattle.std.proofs.lemmas.List.{take-append-le, take-replicate, drop_all, take_all, length-replicate}
use Rattle.std.proofs.Math.Seq.{take-append-add}
use Rattle.vbits.specs.declared.bit4.Bit4.{Bit4}
use Rattle.vbits.specs.declared.bit4.Bit4.TheVariants.{Zero}
use Rattle.vbits.specs.Planes.{letter, letters_of, value_bit, unknown_bit, run, Planes}
use Rattle.vbits.specs.PlanesBack.{length-letters_of, value_bit-letter, unknown_bit-letter}
use Rattle.vbits.specs.Vectors.{shifted_left, shifted_right}
use Rattle.vbits.proofs.LettersOf.{letters_of-run, take-letters_of, drop-letters_of, letters_of-low, letters_of-cat}
use Rattle.vbits.proofs.Parts.{padded, extend-planes}

-- every place is left of the letters
pub shl-past : (n a b k : ℕ) → n ≤ k → letters_of n 0 0 ≡ shifted_left (letters_of n a b) (Some k)
shl-past n a b k h =
    let len = length-letters_of n a b in
    let short : take n (replicate k Zero ++ letters_of n a b) ≡ replicate n Zero =
    take-append-le n (replicate k Zero) (letters_of n a b) (rw (length-replicate k Zero) h) ∙ take-replicate n k Zero h in
    rw len (letters_of-run n Zero ∙ sym short)

shl_word : (n a k : ℕ) → n ≤ 64 → bit_and (a * 2 ^ k % 2 ^ 64) (2 ^ n - 1) ≡ a * 2 ^ k % 2 ^ n
shl_word n a k h =
    let whole : 64 - n + n ≡ 64 = omega arith in
    rw and_mask (subst (λ w. a * 2 ^ k % 2 ^ w % 2 ^ n ≡ a * 2 ^ k % 2 ^ n) whole (mod-mod-pow (a * 2 ^ k) (64 - n) n))

pub shl-within : (n a b k : ℕ) → n ≤ 64 → k ≤ n →
    letters_of n (bit_and (a * 2 ^ k % 2 ^ 64) (2 ^ n - 1)) (bit_and (b * 2 ^ k % 2 ^ 64) (2 ^ n - 1)) ≡ shifted_left (letters_of n a b) (Some k)
shl-within n a b k few h =
    let whole : k + (n - k) ≡ n = omega arith in
    let len = length-letters_of n a b in
    let in_k : 0 < 2 ^ k = pow_pos k in
    let a_same : a * 2 ^ k + 0 ≡ a * 2 ^ k = omega arith in
    let b_same : b * 2 ^ k + 0 ≡ b * 2 ^ k = omega arith in
    let halves : letters_of n (a * 2 ^ k) (b * 2 ^ k) ≡ letters_of k 0 0 ++ letters_of (n - k) a b =
    rw (whole, a_same, b_same) at (letters_of-cat k (n - k) 0 0 a b in_k in_k) in
    let cut : take n (replicate k Zero ++ letters_of n a b) ≡ replicate k Zero ++ take (n - k) (letters_of n a b) =
    rw (length-replicate k Zero, whole) at (take-append-add (replicate k Zero) (letters_of n a b) (n - k)) in
    rw (len, shl_word n a k few, shl_word n b k few)
    (letters_of-low n (a * 2 ^ k) (b * 2 ^ k)
    ∙ halves
    ∙ ap (λ xs. xs ++ letters_of (n - k) a b) (letters_of-run k Zero)
    ∙ ap (λ xs. replicate k Zero ++ xs) (sym (take-letters_of (n - k) n a b (omega arith)))
    ∙ sym cut)

pub shr-past : (n a b k : ℕ) (l : Bit4) → n ≤ k → letters_of n (run (value_bit l) n) (run (unknown_bit l) n) ≡ shifted_right l (letters_of n a b) (Some k)
shr-past n a b k l h =
    let len = length-letters_of n a b in
    let gone : drop k (letters_of n a b) ≡ [] = drop_all k (letters_of n a b) (rw len h) in
    rw (len, gone) (letters_of-run n l ∙ sym (take_all n (replicate n l) (omega (arith, length-replicate n l))))

pub shr-within : (n a b k : ℕ) (l : Bit4) → a < 2 ^ n → b < 2 ^ n → k ≤ n →
    letters_of n (run (value_bit l) (n - (n - k)) * 2 ^ (n - k) + a / 2 ^ k) (run (unknown_bit l) (n - (n - k)) * 2 ^ (n - k) + b / 2 ^ k)
    ≡ shifted_right l (letters_of n a b) (Some k)
shr-within n a b k l h g within =
    let len = length-letters_of n a b in
    let whole : n - k + k ≡ n = omega arith in
    let a_below = shr_below a (n - k) k (subst (λ j. a < 2 ^ j) (sym whole) h) in
    let b_below = shr_below b (n - k) k (subst (λ j. b < 2 ^ j) (sym whole) g) in
    rw (len, drop-letters_of k n a b within) (padded (n - k) (a / 2 ^ k) (b / 2 ^ k) n l a_below b_below (omega arith))

-- ---- by two bits in place of the letter

bit_same : (b : ℕ) → b < 2 → b % 2 ≡ b
bit_same b h = omega arith

value_back : (t u : ℕ) → t < 2 → u < 2 → value_bit (letter t u) ≡ t
value_back t u h g = rw (bit_same t h, bit_same u g) at (value_bit-letter t u)

unknown_back : (t u : ℕ) → t < 2 → u < 2 → unknown_bit (letter t u) ≡ u
unknown_back t u h g = rw (bit_same t h, bit_same u g) at (unknown_bit-letter t u)

pub shr-past-bits : (n a b k t u : ℕ) → t < 2 → u < 2 → n ≤ k → letters_of n (run t n) (run u n) ≡ shifted_right (letter t u) (letters_of n a b) (Some k)
shr-past-bits n a b k t u h g past =
    rw (value_back t u h g, unknown_back t u h g) at (shr-past n a b k (letter t u) past)

pub shr-within-bits : (n a b k t u : ℕ) → t < 2 → u < 2 → Planes n a b → k ≤ n →
    letters_of n (run t (n - (n - k)) * 2 ^ (n - k) + a / 2 ^ k) (run u (n - (n - k)) * 2 ^ (n - k) + b / 2 ^ k)
    ≡ shifted_right (letter t u) (letters_of n a b) (Some k)
shr-within-bits n a b k t u h g p within =
    rw (value_back t u h g, unknown_back t u h g) at (shr-within n a b k (letter t u) p.value_within p.unknown_within within)

pub shr_below_places : (n a k : ℕ) → a < 2 ^ n → k ≤ n → a / 2 ^ k < 2 ^ (n - k)
shr_below_places n a k h within =
    let whole : n - k + k ≡ n = omega arith in
    shr_below a (n - k) k (subst (λ j. a < 2 ^ j) (sym whole) h)

pub shr-planes : (n a b k t u : ℕ) → Planes n a b → k < n →
    Planes n (run t (n - (n - k)) * 2 ^ (n - k) + a / 2 ^ k) (run u (n - (n - k)) * 2 ^ (n - k) + b / 2 ^ k)
shr-planes n a b k t u p within =
    extend-planes (n - k) (a / 2 ^ k) (b / 2 ^ k) n t u
    (record {
      some = omega arith;
      few = let q = p.few in omega arith;
      value_within = shr_below_places n a k p.value_within (omega arith);
      unknown_within = shr_below_places n b k p.unknown_within (omega arith);
    })
    (omega arith) p.few
