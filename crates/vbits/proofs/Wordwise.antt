-- Operators that work bit by bit, and what they make of the letters of four planes.
use Rattle.std.proofs.Common.{◌≡◌, ℕ, zero, suc, ◌-◌, ◌/◌, ◌%◌, ◌^◌, ◌<◌, Bool, not, ◌&&◌, ◌||◌, ◌∷◌, map, refl, ◌∙◌, ap, arith}
use Rattle.std.specs.Prelude.{bit_and, bit_or, bit_xor, zip, nat_eq}
use Rattle.std.specs.List.{list_any, list_all}
use Rattle.std.proofs.lemmas.Bool.Decides.{nat_tests}
use Rattle.std.proofs.lemmas.Nat.{and_mod, or_mod, xor_mod, and_shr, or_shr, xor_shr, pow_pos}
use Rattle.vbits.specs.declared.bit4.Bit4.{Bit4}
use Rattle.vbits.specs.Planes.{letter, letters_of, value_bit, unknown_bit}
use Rattle.vbits.specs.PlanesBack.{value_bit-letter, unknown_bit-letter, half_within}
use Rattle.vbits.proofs.LettersOf.{odd_ones, half_ones}

-- words from five words: two planes, two planes more, and a word of ones
abbrev pub Word : Type 0
Word = ℕ → ℕ → ℕ → ℕ → ℕ → ℕ

-- each bit of the result is made of the same bits of the words
pub record Wordwise (f : Word) : Type 0 where
  pub low : (a b c d m : ℕ) → f a b c d m % 2 ≡ f (a % 2) (b % 2) (c % 2) (d % 2) (m % 2)
  pub half : (a b c d m : ℕ) → f a b c d m / 2 ≡ f (a / 2) (b / 2) (c / 2) (d / 2) (m / 2)
  pub zeros : f 0 0 0 0 0 ≡ 0

pub word_a : Wordwise (λ a b c d m. a)
word_a = record { low = λ a b c d m. refl; half = λ a b c d m. refl; zeros = refl }

pub word_b : Wordwise (λ a b c d m. b)
word_b = record { low = λ a b c d m. refl; half = λ a b c d m. refl; zeros = refl }

pub word_c : Wordwise (λ a b c d m. c)
word_c = record { low = λ a b c d m. refl; half = λ a b c d m. refl; zeros = refl }

pub word_d : Wordwise (λ a b c d m. d)
word_d = record { low = λ a b c d m. refl; half = λ a b c d m. refl; zeros = refl }

pub word_m : Wordwise (λ a b c d m. m)
word_m = record { low = λ a b c d m. refl; half = λ a b c d m. refl; zeros = refl }

pub and_words : (f g : Word) → Wordwise f → Wordwise g → Wordwise (λ a b c d m. bit_and (f a b c d m) (g a b c d m))
and_words f g p q = record {
  low = λ a b c d m. and_mod (f a b c d m) (g a b c d m) 1 ∙ rw (p.low a b c d m, q.low a b c d m) refl;
  half = λ a b c d m. and_shr (f a b c d m) (g a b c d m) 1 ∙ rw (p.half a b c d m, q.half a b c d m) refl;
  zeros = ap (λ x. bit_and x (g 0 0 0 0 0)) p.zeros;
}

pub or_words : (f g : Word) → Wordwise f → Wordwise g → Wordwise (λ a b c d m. bit_or (f a b c d m) (g a b c d m))
or_words f g p q = record {
  low = λ a b c d m. or_mod (f a b c d m) (g a b c d m) 1 ∙ rw (p.low a b c d m, q.low a b c d m) refl;
  half = λ a b c d m. or_shr (f a b c d m) (g a b c d m) 1 ∙ rw (p.half a b c d m, q.half a b c d m) refl;
  zeros = ap (λ x. bit_or x (g 0 0 0 0 0)) p.zeros ∙ q.zeros;
}

pub xor_words : (f g : Word) → Wordwise f → Wordwise g → Wordwise (λ a b c d m. bit_xor (f a b c d m) (g a b c d m))
xor_words f g p q = record {
  low = λ a b c d m. xor_mod (f a b c d m) (g a b c d m) 1 ∙ rw (p.low a b c d m, q.low a b c d m) refl;
  half = λ a b c d m. xor_shr (f a b c d m) (g a b c d m) 1 ∙ rw (p.half a b c d m, q.half a b c d m) refl;
  zeros = ap (λ x. bit_xor x (g 0 0 0 0 0)) p.zeros ∙ q.zeros;
}

-- four planes of n bits
pub record Four (n a b c d : ℕ) : Type 0 where
  pub in_a : a < 2 ^ n
  pub in_b : b < 2 ^ n
  pub in_c : c < 2 ^ n
  pub in_d : d < 2 ^ n

half_four : (n a b c d : ℕ) → Four (suc n) a b c d → Four n (a / 2) (b / 2) (c / 2) (d / 2)
half_four n a b c d h = record {
  in_a = half_within n a h.in_a;
  in_b = half_within n b h.in_b;
  in_c = half_within n c h.in_c;
  in_d = half_within n d h.in_d;
}

pub first_pair : (n a b c d : ℕ) → Four n a b c d → Four n a b 0 0
first_pair n a b c d h = record { in_a = h.in_a; in_b = h.in_b; in_c = pow_pos n; in_d = pow_pos n }

pub second_pair : (n a b c d : ℕ) → Four n a b c d → Four n c d 0 0
second_pair n a b c d h = record { in_a = h.in_c; in_b = h.in_d; in_c = pow_pos n; in_d = pow_pos n }

-- a word made of words of n bits has n bits
pub word-within : (f : Word) → Wordwise f → (n a b c d : ℕ) → Four n a b c d → f a b c d (2 ^ n - 1) < 2 ^ n
word-within f p zero a b c d h =
    let at_a : a ≡ 0 = omega arith in
    let at_b : b ≡ 0 = omega arith in
    let at_c : c ≡ 0 = omega arith in
    let at_d : d ≡ 0 = omega arith in
    rw (at_a, at_b, at_c, at_d, p.zeros) (omega arith)
word-within f p (suc n) a b c d h =
    let halves = word-within f p n (a / 2) (b / 2) (c / 2) (d / 2) (half_four n a b c d h) in
    let half = p.half a b c d (2 ^ suc n - 1) ∙ ap (f (a / 2) (b / 2) (c / 2) (d / 2)) (half_ones n) in
    omega arith

-- a table agrees with the two words at these letters
abbrev pub Agrees : (Bit4 → Bit4 → Bit4) → Word → Word → Bit4 → Bit4 → Type 0
Agrees table v u x y =
    letter (v (value_bit x) (unknown_bit x) (value_bit y) (unknown_bit y) 1) (u (value_bit x) (unknown_bit x) (value_bit y) (unknown_bit y) 1) ≡ table x y

at_bits : (table : Bit4 → Bit4 → Bit4) (v u : Word) → ((x y : Bit4) → Agrees table v u x y) → (a b c d : ℕ) →
    letter (v (a % 2) (b % 2) (c % 2) (d % 2) 1) (u (a % 2) (b % 2) (c % 2) (d % 2) 1) ≡ table (letter (a % 2) (b % 2)) (letter (c % 2) (d % 2))
at_bits table v u agrees a b c d =
    rw (value_bit-letter a b, unknown_bit-letter a b, value_bit-letter c d, unknown_bit-letter c d) at
    (agrees (letter (a % 2) (b % 2)) (letter (c % 2) (d % 2)))

pub map-zip-letters_of : (table : Bit4 → Bit4 → Bit4) (v u : Word) → Wordwise v → Wordwise u → ((x y : Bit4) → Agrees table v u x y) →
    (n a b c d : ℕ) → map (λ pair. table pair.0 pair.1) (zip (letters_of n a b) (letters_of n c d)) ≡ letters_of n (v a b c d (2 ^ n - 1)) (u a b c d (2 ^ n - 1))
map-zip-letters_of table v u p q agrees zero a b c d = refl
map-zip-letters_of table v u p q agrees (suc n) a b c d =
    rw (
      p.low a b c d (2 ^ suc n - 1),
      q.low a b c d (2 ^ suc n - 1),
      p.half a b c d (2 ^ suc n - 1),
      q.half a b c d (2 ^ suc n - 1),
      odd_ones n,
      half_ones n,
      at_bits table v u agrees a b c d,
    )
    (ap (λ xs. table (letter (a % 2) (b % 2)) (letter (c % 2) (d % 2)) ∷ xs) (map-zip-letters_of table v u p q agrees n (a / 2) (b / 2) (c / 2) (d / 2)))

-- a table of one letter agrees with the two words
abbrev pub AgreesOne : (Bit4 → Bit4) → Word → Word → Bit4 → Type 0
AgreesOne table v u x = letter (v (value_bit x) (unknown_bit x) 0 0 1) (u (value_bit x) (unknown_bit x) 0 0 1) ≡ table x

pub map-letters_of : (table : Bit4 → Bit4) (v u : Word) → Wordwise v → Wordwise u → ((x : Bit4) → AgreesOne table v u x) →
    (n a b : ℕ) → map table (letters_of n a b) ≡ letters_of n (v a b 0 0 (2 ^ n - 1)) (u a b 0 0 (2 ^ n - 1))
map-letters_of table v u p q agrees zero a b = refl
map-letters_of table v u p q agrees (suc n) a b =
    let head = rw (value_bit-letter a b, unknown_bit-letter a b) at (agrees (letter (a % 2) (b % 2))) in
    rw (p.low a b 0 0 (2 ^ suc n - 1), q.low a b 0 0 (2 ^ suc n - 1), p.half a b 0 0 (2 ^ suc n - 1), q.half a b 0 0 (2 ^ suc n - 1), odd_ones n, half_ones n, head)
    (ap (λ xs. table (letter (a % 2) (b % 2)) ∷ xs) (map-letters_of table v u p q agrees n (a / 2) (b / 2)))

-- ---- tests of letters

-- a word is 0 where its lowest bit is and its others are
any_bit : (w : ℕ) → not (nat_eq (w % 2) 0) || not (nat_eq (w / 2) 0) ≡ not (nat_eq w 0)
any_bit w = grind (arith, nat_tests)

no_bit : (w : ℕ) → nat_eq (w % 2) 0 && nat_eq (w / 2) 0 ≡ nat_eq w 0
no_bit w = grind (arith, nat_tests)

low_of : (w : Word) → Wordwise w → (n a b c d : ℕ) → w a b c d (2 ^ suc n - 1) % 2 ≡ w (a % 2) (b % 2) (c % 2) (d % 2) 1
low_of w p n a b c d = p.low a b c d (2 ^ suc n - 1) ∙ ap (w (a % 2) (b % 2) (c % 2) (d % 2)) (odd_ones n)

half_of : (w : Word) → Wordwise w → (n a b c d : ℕ) → w a b c d (2 ^ suc n - 1) / 2 ≡ w (a / 2) (b / 2) (c / 2) (d / 2) (2 ^ n - 1)
half_of w p n a b c d = p.half a b c d (2 ^ suc n - 1) ∙ ap (w (a / 2) (b / 2) (c / 2) (d / 2)) (half_ones n)

none_of : (w : Word) → Wordwise w → (a b c d : ℕ) → Four 0 a b c d → w a b c d 0 ≡ 0
none_of w p a b c d h =
    let at_a : a ≡ 0 = omega arith in
    let at_b : b ≡ 0 = omega arith in
    let at_c : c ≡ 0 = omega arith in
    let at_d : d ≡ 0 = omega arith in
    rw (at_a, at_b, at_c, at_d) p.zeros

-- the word tells where the test holds
abbrev pub Tells : (Bit4 → Bit4 → Bool) → Word → Bit4 → Bit4 → Type 0
Tells test w x y = test x y ≡ not (nat_eq (w (value_bit x) (unknown_bit x) (value_bit y) (unknown_bit y) 1) 0)

pub any-zip-letters_of : (test : Bit4 → Bit4 → Bool) (w : Word) → Wordwise w → ((x y : Bit4) → Tells test w x y) →
    (n a b c d : ℕ) → Four n a b c d → list_any (λ pair. test pair.0 pair.1) (zip (letters_of n a b) (letters_of n c d)) ≡ not (nat_eq (w a b c d (2 ^ n - 1)) 0)
any-zip-letters_of test w p tells zero a b c d h = rw (none_of w p a b c d h) refl
any-zip-letters_of test w p tells (suc n) a b c d h =
    let rest = any-zip-letters_of test w p tells n (a / 2) (b / 2) (c / 2) (d / 2) (half_four n a b c d h) in
    let head = rw (value_bit-letter a b, unknown_bit-letter a b, value_bit-letter c d, unknown_bit-letter c d) at
    (tells (letter (a % 2) (b % 2)) (letter (c % 2) (d % 2))) in
    rw (head, rest, ← low_of w p n a b c d, ← half_of w p n a b c d) (any_bit (w a b c d (2 ^ suc n - 1)))

-- the word tells where the test fails
abbrev pub Denies : (Bit4 → Bit4 → Bool) → Word → Bit4 → Bit4 → Type 0
Denies test w x y = test x y ≡ nat_eq (w (value_bit x) (unknown_bit x) (value_bit y) (unknown_bit y) 1) 0

pub all-zip-letters_of : (test : Bit4 → Bit4 → Bool) (w : Word) → Wordwise w → ((x y : Bit4) → Denies test w x y) →
    (n a b c d : ℕ) → Four n a b c d → list_all (λ pair. test pair.0 pair.1) (zip (letters_of n a b) (letters_of n c d)) ≡ nat_eq (w a b c d (2 ^ n - 1)) 0
all-zip-letters_of test w p denies zero a b c d h = rw (none_of w p a b c d h) refl
all-zip-letters_of test w p denies (suc n) a b c d h =
    let rest = all-zip-letters_of test w p denies n (a / 2) (b / 2) (c / 2) (d / 2) (half_four n a b c d h) in
    let head = rw (value_bit-letter a b, unknown_bit-letter a b, value_bit-letter c d, unknown_bit-letter c d) at
    (denies (letter (a % 2) (b % 2)) (letter (c % 2) (d % 2))) in
    rw (head, rest, ← low_of w p n a b c d, ← half_of w p n a b c d) (no_bit (w a b c d (2 ^ suc n - 1)))

-- the word tells which single letters pass
abbrev pub TellsOne : (Bit4 → Bool) → Word → Bit4 → Type 0
TellsOne test w x = test x ≡ not (nat_eq (w (value_bit x) (unknown_bit x) 0 0 1) 0)

pub any-letters_of : (test : Bit4 → Bool) (w : Word) → Wordwise w → ((x : Bit4) → TellsOne test w x) →
    (n a b : ℕ) → Four n a b 0 0 → list_any test (letters_of n a b) ≡ not (nat_eq (w a b 0 0 (2 ^ n - 1)) 0)
any-letters_of test w p tells zero a b h = rw (none_of w p a b 0 0 h) refl
any-letters_of test w p tells (suc n) a b h =
    let rest = any-letters_of test w p tells n (a / 2) (b / 2) (half_four n a b 0 0 h) in
    let head = rw (value_bit-letter a b, unknown_bit-letter a b) at (tells (letter (a % 2) (b % 2))) in
    rw (head, rest, ← low_of w p n a b 0 0, ← half_of w p n a b 0 0) (any_bit (w a b 0 0 (2 ^ suc n - 1)))
