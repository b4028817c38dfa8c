-- The letters of two words: their ends, their parts, and words that are cut or joined.
use Rattle.std.proofs.Common.{◌≡◌, ℕ, zero, suc, ◌+◌, ◌-◌, ◌*◌, ◌/◌, ◌%◌, ◌^◌, ◌<◌, ◌≤◌, take, drop, replicate, List, ◌∷◌, ◌++◌, refl, sym, ◌∙◌, ap, arith}
use Rattle.std.specs.Prelude.{Some, slice_get, bit_and}
use Rattle.std.proofs.lemmas.Nat.{shr-shr, field_of, shr_high, mod_low, and_mask, pow_pos}
use Rattle.std.proofs.Math.Pow.{mod-mod-pow}
use Rattle.std.proofs.lemmas.List.{take-append-drop}
use Rattle.vbits.specs.declared.bit4.Bit4.{Bit4}
use Rattle.vbits.specs.declared.bit4.Bit4.TheVariants.{Zero, One, X, Z}
use Rattle.vbits.specs.Planes.{letter, letters_of, value_bit, unknown_bit, run}
use Rattle.vbits.specs.Numbers.{digit, digits}

pub odd_ones : (n : ℕ) → (2 ^ suc n - 1) % 2 ≡ 1
odd_ones n = let p = pow_pos n in omega arith

pub half_ones : (n : ℕ) → (2 ^ suc n - 1) / 2 ≡ 2 ^ n - 1
half_ones n = let p = pow_pos n in omega arith

pub letters_of-run : (n : ℕ) (l : Bit4) → letters_of n (run (value_bit l) n) (run (unknown_bit l) n) ≡ replicate n l
letters_of-run zero l = refl
letters_of-run (suc n) Zero = ap (λ xs. Zero ∷ xs) (letters_of-run n Zero)
letters_of-run (suc n) One = rw (odd_ones n, half_ones n) (ap (λ xs. One ∷ xs) (letters_of-run n One))
letters_of-run (suc n) X = rw (odd_ones n, half_ones n) (ap (λ xs. X ∷ xs) (letters_of-run n X))
letters_of-run (suc n) Z = rw (odd_ones n, half_ones n) (ap (λ xs. Z ∷ xs) (letters_of-run n Z))

pub take-letters_of : (k n v u : ℕ) → k ≤ n → take k (letters_of n v u) ≡ letters_of k v u
take-letters_of zero n v u h = refl
take-letters_of (suc k) zero v u h = absurd (omega arith)
take-letters_of (suc k) (suc n) v u h =
    ap (λ xs. letter (v % 2) (u % 2) ∷ xs) (take-letters_of k n (v / 2) (u / 2) (omega arith))

half_shr : (k v : ℕ) → v / 2 / 2 ^ k ≡ v / 2 ^ suc k
half_shr k v = shr-shr v 1 k ∙ ap (λ j. v / 2 ^ j) (omega arith)

pub drop-letters_of : (k n v u : ℕ) → k ≤ n → drop k (letters_of n v u) ≡ letters_of (n - k) (v / 2 ^ k) (u / 2 ^ k)
drop-letters_of zero n v u h =
    let nothing : n - 0 ≡ n = omega arith in
    let v_same : v / 2 ^ 0 ≡ v = omega arith in
    let u_same : u / 2 ^ 0 ≡ u = omega arith in
    rw (nothing, v_same, u_same) refl
drop-letters_of (suc k) zero v u h = absurd (omega arith)
drop-letters_of (suc k) (suc n) v u h =
    let less : suc n - suc k ≡ n - k = omega arith in
    rw (less, ← half_shr k v, ← half_shr k u) (drop-letters_of k n (v / 2) (u / 2) (omega arith))

low_bit : (n v : ℕ) → v % 2 ^ suc n % 2 ≡ v % 2
low_bit n v = ap (λ j. v % 2 ^ j % 2) (omega arith) ∙ mod-mod-pow v n 1

low_half : (n v : ℕ) → v % 2 ^ suc n / 2 ≡ v / 2 % 2 ^ n
low_half n v = ap (λ j. v % 2 ^ j / 2) (omega arith) ∙ field_of v n 1

-- bits above the letters say nothing
pub letters_of-low : (n v u : ℕ) → letters_of n (v % 2 ^ n) (u % 2 ^ n) ≡ letters_of n v u
letters_of-low zero v u = refl
letters_of-low (suc n) v u =
    rw (low_bit n v, low_bit n u, low_half n v, low_half n u)
    (ap (λ xs. letter (v % 2) (u % 2) ∷ xs) (letters_of-low n (v / 2) (u / 2)))

pub letters_of-cat : (n m v u v' u' : ℕ) → v < 2 ^ n → u < 2 ^ n →
    letters_of (n + m) (v' * 2 ^ n + v) (u' * 2 ^ n + u) ≡ letters_of n v u ++ letters_of m v' u'
letters_of-cat n m v u v' u' h k =
    let whole : List Bit4 = letters_of (n + m) (v' * 2 ^ n + v) (u' * 2 ^ n + u) in
    let left : n + m - n ≡ m = omega arith in
    let front : take n whole ≡ letters_of n v u =
    take-letters_of n (n + m) (v' * 2 ^ n + v) (u' * 2 ^ n + u) (omega arith)
    ∙ sym (letters_of-low n (v' * 2 ^ n + v) (u' * 2 ^ n + u))
    ∙ rw (mod_low v' n v h, mod_low u' n u k) refl in
    let back : drop n whole ≡ letters_of m v' u' =
    drop-letters_of n (n + m) (v' * 2 ^ n + v) (u' * 2 ^ n + u) (omega arith)
    ∙ rw (left, shr_high v' n v h, shr_high u' n u k) refl in
    sym (take-append-drop n whole) ∙ ap (λ xs. xs ++ drop n whole) front ∙ ap (λ xs. letters_of n v u ++ xs) back

pub slice_get-letters_of : (n v u i : ℕ) → i < n → slice_get (letters_of n v u) i ≡ Some (letter (v / 2 ^ i % 2) (u / 2 ^ i % 2))
slice_get-letters_of zero v u i h = absurd (omega arith)
slice_get-letters_of (suc n) v u zero h =
    let v_same : v / 2 ^ 0 ≡ v = omega arith in
    let u_same : u / 2 ^ 0 ≡ u = omega arith in
    rw (v_same, u_same) refl
slice_get-letters_of (suc n) v u (suc i) h =
    rw (← half_shr i v, ← half_shr i u) (slice_get-letters_of n (v / 2) (u / 2) i (omega arith))

digit-letter : (b : ℕ) → digit b ≡ letter b 0
digit-letter zero = refl
digit-letter (suc b) = refl

pub digits-letters_of : (n k : ℕ) → letters_of n k 0 ≡ digits n k
digits-letters_of zero k = refl
digits-letters_of (suc n) k = rw (digit-letter (k % 2)) (ap (λ xs. letter (k % 2) 0 ∷ xs) (digits-letters_of n (k / 2)))

pub zero_low : (n : ℕ) → 0 % 2 ^ n ≡ 0
zero_low n = let p = pow_pos n in omega arith

-- digits above the count say nothing
pub digits-low : (n k : ℕ) → letters_of n (bit_and k (2 ^ n - 1)) 0 ≡ digits n k
digits-low n k =
    rw and_mask (ap (λ z. letters_of n (k % 2 ^ n) z) (sym (zero_low n)) ∙ letters_of-low n k 0 ∙ digits-letters_of n k)
