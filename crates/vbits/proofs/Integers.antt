-- Integers in two's complement, and the digits of what is computed from them.
use Rattle.std.proofs.Common.{◌≡◌, ℕ, zero, suc, ◌+◌, ◌-◌, ◌*◌, ◌/◌, ◌%◌, ◌^◌, ◌<◌, ◌≤◌, Bool, true, false, not, cond, refl, sym, ◌∙◌, ap, arith, inl, inr, subst}
use Rattle.std.specs.Prelude.{bit_and, nat_le, ℤ, pos, negsuc, ◌+ℤ◌, ◌-ℤ◌, ◌*ℤ◌, neg_ℤ, int_div, int_rem, int_lt, int_le, unsigned_abs, nat_eq, nat_lt, Some}
use Rattle.std.proofs.lemmas.Bool.{cases_lt, ne_eqb}
use Rattle.std.proofs.lemmas.Bool.Decides.{nat_tests}
use Rattle.std.proofs.lemmas.Int.{ints, int_rem_euclid_is}
use Rattle.std.proofs.lemmas.Nat.{and_mask, pow_pos, pow-add, div_below, le-div}
use Rattle.std.proofs.Math.Nat.{add-mul-mod_self_right}
use Rattle.std.proofs.Math.Pow.{mod-mod-pow}
use Rattle.vbits.specs.Numbers.{read, wrap}
use Rattle.vbits.specs.Planes.{letters_of, sign_bit, signed_number}
use Rattle.vbits.specs.Vectors.{quotient_of, remainder_of}
use Rattle.vbits.proofs.LettersOf.{digits-letters_of}

-- ---- a number of n digits as an integer

pub data Reading (s : Bool) (n a : ℕ) : Type 0 where
  plain : read s n a ≡ pos a → sign_bit a n s ≡ 0 → Reading s n a
  below : (k : ℕ) → read s n a ≡ negsuc k → a + suc k ≡ 2 ^ n → sign_bit a n s ≡ 1 → Reading s n a

not_le : (h a : ℕ) → a < h → nat_le h a ≡ false
not_le h a l = grind (arith, nat_tests)

is_le : (h a : ℕ) → h ≤ a → nat_le h a ≡ true
is_le h a l = grind (arith, nat_tests)

under : (a p k : ℕ) → a + suc k ≡ p → pos a -ℤ pos p ≡ negsuc k
under a p k e = omega (arith, ints)

pub reading : (s : Bool) (n a : ℕ) → 1 ≤ n → a < 2 ^ n → Reading s n a
reading false n a some h = plain refl refl
reading true n a some h =
    let p = pow_pos (n - 1) in
    let twice : 2 ^ n ≡ 2 * 2 ^ (n - 1) = ap (λ k. 2 ^ k) (omega arith) ∙ pow-add 2 1 (n - 1) in
    elim (cases_lt a (2 ^ (n - 1))) [
      | inl low ↦
          let none : a / 2 ^ (n - 1) < 1 = div_below a (2 ^ (n - 1)) 1 p (omega arith) in
          plain (rw (not_le (2 ^ (n - 1)) a low) refl) (omega arith)
      | inr high ↦
          let most : a / 2 ^ (n - 1) < 2 = div_below a (2 ^ (n - 1)) 2 p (omega arith) in
          let least : 1 ≤ a / 2 ^ (n - 1) = le-div 1 a (2 ^ (n - 1)) p (omega arith) in
          let whole : a + suc (2 ^ n - suc a) ≡ 2 ^ n = omega arith in
          below (2 ^ n - suc a) (rw (is_le (2 ^ (n - 1)) a high) (under a (2 ^ n) (2 ^ n - suc a) whole)) whole (omega arith)
    ]

-- an integer and a number that is a multiple of 2 ^ n above it
pub record Above (n : ℕ) (z : ℤ) (v : ℕ) : Type 0 where
  pub turns : ℕ
  pub is : z +ℤ pos (turns * 2 ^ n) ≡ pos v

-- an integer and a number with the same n low digits
pub record Same (n : ℕ) (z : ℤ) (v : ℕ) : Type 0 where
  pub number : ℕ
  pub above : Above n z number
  pub low : number % 2 ^ n ≡ v % 2 ^ n

pub exact : (n : ℕ) (z : ℤ) (v : ℕ) → Above n z v → Same n z v
exact n z v h = record { number = v; above = h; low = refl }

pub read-above : (s : Bool) (n a : ℕ) → 1 ≤ n → a < 2 ^ n → Above n (read s n a) a
read-above s n a some h =
    elim (reading s n a some h) [
      | plain e _ ↦ record { turns = 0; is = rw e (omega (arith, ints)) }
      | below k e w _ ↦ record { turns = 1; is = rw e (omega (arith, ints)) }
    ]

-- the word's low digits are those of the integer
pub wrapped-letters : (n v : ℕ) (z : ℤ) → n ≤ 64 → Same n z v → letters_of n (bit_and (v % 2 ^ 64) (2 ^ n - 1)) 0 ≡ wrap n z
wrapped-letters n v z few h =
    let whole : 64 - n + n ≡ 64 = omega arith in
    let low : v % 2 ^ 64 % 2 ^ n ≡ v % 2 ^ n = subst (λ w. v % 2 ^ w % 2 ^ n ≡ v % 2 ^ n) whole (mod-mod-pow v (64 - n) n) in
    rw (and_mask, low, int_rem_euclid_is z (pos (2 ^ n)) (2 ^ n) h.above.turns h.number (pow_pos n) refl h.above.is, h.low)
    (digits-letters_of n (v % 2 ^ n))

-- ---- sums, differences, products

pub sum-above : (n : ℕ) (x y : ℤ) (a c : ℕ) → Above n x a → Above n y c → Above n (x +ℤ y) (a + c)
sum-above n x y a c p q =
    let e = p.is in
    let f = q.is in
    record { turns = p.turns + q.turns; is = omega (arith, ints) }

turn_less : (t p : ℕ) → 0 < t → (t - 1) * p + p ≡ t * p
turn_less zero p h = absurd (omega arith)
turn_less (suc k) p h = let e : suc k - 1 ≡ k = omega arith in rw e (omega arith)

pub difference-above : (t : Bool) (n : ℕ) (x : ℤ) (a c : ℕ) → Above n x a → 1 ≤ n → n ≤ 64 → c < 2 ^ n →
    Above n (x -ℤ read t n c) (a + (2 ^ 64 - c))
difference-above t n x a c p some few h =
    let e = p.is in
    let place : 64 - n + n ≡ 64 = omega arith in
    let all : 2 ^ (64 - n) * 2 ^ n ≡ 2 ^ 64 = sym (pow-add 2 (64 - n) n) ∙ ap (λ k. 2 ^ k) place in
    let less = turn_less (2 ^ (64 - n)) (2 ^ n) (pow_pos (64 - n)) in
    elim (reading t n c some h) [
      | plain f _ ↦ record { turns = 2 ^ (64 - n) + p.turns; is = rw f (omega (arith, ints)) }
      | below k f w _ ↦ record { turns = 2 ^ (64 - n) - 1 + p.turns; is = rw f (omega (arith, ints)) }
    ]

pub negation-above : (s : Bool) (n a : ℕ) → 1 ≤ n → n ≤ 64 → a < 2 ^ n → Above n (neg_ℤ (read s n a)) (0 + (2 ^ 64 - a))
negation-above s n a some few h =
    let zero_above : Above n (pos 0) 0 = record { turns = 0; is = omega (arith, ints) } in
    let d = difference-above s n (pos 0) 0 a zero_above some few h in
    record { turns = d.turns; is = let e = d.is in omega (arith, ints) }

times_under : (a c j p : ℕ) → c + suc j ≡ p → neg_ℤ (pos (a * suc j)) +ℤ pos (a * p) ≡ pos (a * c)
times_under a c j p e =
    let whole : a * p ≡ a * c + a * suc j = ap (λ q. a * q) (sym e) ∙ omega arith in
    omega (arith, ints)

under_times : (a c i p : ℕ) → a + suc i ≡ p → neg_ℤ (pos (suc i * c)) +ℤ pos (c * p) ≡ pos (a * c)
under_times a c i p e =
    let whole : c * p ≡ a * c + suc i * c = ap (λ q. c * q) (sym e) ∙ omega arith in
    omega (arith, ints)

-- the complements of two numbers have the product of the numbers, up to multiples of p
under_under : (a c i j p : ℕ) → a + suc i ≡ p → c + suc j ≡ p → suc i * suc j + p * p ≡ a * c + (suc i + suc j) * p
under_under a c i j p e f =
    let square : p * p ≡ (a + suc i) * (c + suc j) = ap (λ q. q * p) (sym e) ∙ ap (λ q. (a + suc i) * q) (sym f) in
    let left : suc i * p ≡ suc i * (c + suc j) = ap (λ q. suc i * q) (sym f) in
    let right : suc j * p ≡ suc j * (a + suc i) = ap (λ q. suc j * q) (sym e) in
    omega arith

pub product-same : (s t : Bool) (n a c : ℕ) → 1 ≤ n → a < 2 ^ n → c < 2 ^ n → Same n (read s n a *ℤ read t n c) (a * c)
product-same s t n a c some h g =
    elim (reading s n a some h) [
      | plain e _ ↦ elim (reading t n c some g) [
        | plain f _ ↦ exact n _ (a * c) (record { turns = 0; is = rw (e, f) (omega (arith, ints)) })
        | below j f w _ ↦ exact n _ (a * c) (record { turns = a; is = rw (e, f) (times_under a c j (2 ^ n) w) })
      ]
      | below i e v _ ↦ elim (reading t n c some g) [
        | plain f _ ↦ exact n _ (a * c) (record { turns = c; is = rw (e, f) (under_times a c i (2 ^ n) v) })
        | below j f w _ ↦ record {
          number = suc i * suc j;
          above = record { turns = 0; is = rw (e, f) (omega (arith, ints)) };
          low =
              sym (add-mul-mod_self_right (suc i * suc j) (2 ^ n) (2 ^ n))
              ∙ ap (λ x. x % 2 ^ n) (under_under a c i j (2 ^ n) v w)
              ∙ add-mul-mod_self_right (a * c) (suc i + suc j) (2 ^ n);
        }
      ]
    ]

-- ---- quotients and remainders: by magnitudes and signs

abbrev bool_xor : Bool → Bool → Bool
bool_xor false b = b
bool_xor true b = not b

abbrev pub is_below : ℤ → Bool
is_below (pos a) = false
is_below (negsuc k) = true

pub below-sign : (s : Bool) (n a : ℕ) → 1 ≤ n → a < 2 ^ n → is_below (read s n a) ≡ nat_eq (sign_bit a n s) 1
below-sign s n a some h =
    elim (reading s n a some h) [
      | plain e z ↦ rw (e, z) refl
      | below k e _ z ↦ rw (e, z) refl
    ]

pub signs-differ : (s : Bool) (n a c : ℕ) → 1 ≤ n → a < 2 ^ n → c < 2 ^ n →
    not (nat_eq (sign_bit a n s) (sign_bit c n s)) ≡ bool_xor (is_below (read s n a)) (is_below (read s n c))
signs-differ s n a c some h g =
    elim (reading s n a some h) [
      | plain e y ↦ elim (reading s n c some g) [
        | plain f z ↦ rw (e, f, y, z) refl
        | below j f _ z ↦ rw (e, f, y, z) refl
      ]
      | below i e _ y ↦ elim (reading s n c some g) [
        | plain f z ↦ rw (e, f, y, z) refl
        | below j f _ z ↦ rw (e, f, y, z) refl
      ]
    ]

pub quotient-signed : (x y : ℤ) → int_div x y ≡ signed_number (bool_xor (is_below x) (is_below y)) (unsigned_abs x / unsigned_abs y)
quotient-signed (pos a) (pos b) = refl
quotient-signed (pos a) (negsuc b) = refl
quotient-signed (negsuc a) (pos b) = refl
quotient-signed (negsuc a) (negsuc b) = refl

pub remainder-signed : (x y : ℤ) → int_rem x y ≡ signed_number (is_below x) (unsigned_abs x % unsigned_abs y)
remainder-signed (pos a) y = refl
remainder-signed (negsuc a) y = refl

pub quotient-some : (x y : ℤ) → (unsigned_abs y ≡ 0 → ⊥) → quotient_of x y ≡ Some (int_div x y)
quotient-some x (pos zero) h = absurd (h refl)
quotient-some x (pos (suc n)) h = refl
quotient-some x (negsuc n) h = refl

pub remainder-some : (x y : ℤ) → (unsigned_abs y ≡ 0 → ⊥) → remainder_of x y ≡ Some (int_rem x y)
remainder-some x (pos zero) h = absurd (h refl)
remainder-some x (pos (suc n)) h = refl
remainder-some x (negsuc n) h = refl

-- a zero is 0 either way
pub read-zero : (s : Bool) (n : ℕ) → read s n 0 ≡ pos 0
read-zero false n = refl
read-zero true n = rw (not_le (2 ^ (n - 1)) 0 (pow_pos (n - 1))) refl

pub abs-zero : (s : Bool) (n a : ℕ) → 1 ≤ n → a < 2 ^ n → unsigned_abs (read s n a) ≡ 0 → a ≡ 0
abs-zero s n a some h z =
    elim (reading s n a some h) [
      | plain e _ ↦ rw e at z
      | below k e _ _ ↦ absurd (omega (arith, rw e at z))
    ]

pub signed-above : (s : Bool) (n m : ℕ) → n ≤ 64 → m ≤ 2 ^ 64 → Above n (signed_number s m) (cond s (0 + (2 ^ 64 - m)) m)
signed-above false n m few h = record { turns = 0; is = omega (arith, ints) }
signed-above true n m few h =
    let place : 64 - n + n ≡ 64 = omega arith in
    let all : 2 ^ (64 - n) * 2 ^ n ≡ 2 ^ 64 = sym (pow-add 2 (64 - n) n) ∙ ap (λ k. 2 ^ k) place in
    record { turns = 2 ^ (64 - n); is = omega (arith, ints) }

-- ---- order

pub less-is : (s : Bool) (n a c : ℕ) → 1 ≤ n → a < 2 ^ n → c < 2 ^ n →
    int_lt (read s n a) (read s n c) ≡ cond (nat_eq (sign_bit a n s) (sign_bit c n s)) (nat_lt a c) (nat_lt (sign_bit c n s) (sign_bit a n s))
less-is s n a c some h g =
    elim (reading s n a some h) [
      | plain e y ↦ elim (reading s n c some g) [
        | plain f z ↦ rw (e, f, y, z) refl
        | below j f w z ↦ rw (e, f, y, z) refl
      ]
      | below i e v y ↦ elim (reading s n c some g) [
        | plain f z ↦ rw (e, f, y, z) refl
        | below j f w z ↦ rw (e, f, y, z) (turned_order a c i j (2 ^ n) v w)
      ]
    ]
  where
    turned_order : (a c i j p : ℕ) → a + suc i ≡ p → c + suc j ≡ p → nat_lt j i ≡ nat_lt a c
    turned_order a c i j p v w = grind (arith, nat_tests)

pub less-equal : (x y : ℤ) → int_le x y ≡ not (int_lt y x)
less-equal (pos a) (pos b) = grind (arith, nat_tests)
less-equal (pos a) (negsuc b) = refl
less-equal (negsuc a) (pos b) = refl
less-equal (negsuc a) (negsuc b) = grind (arith, nat_tests)

-- ---- what the code computes

pub magnitude-plain : (s : Bool) (n a : ℕ) → 1 ≤ n → a < 2 ^ n → sign_bit a n s ≡ 0 → a ≡ unsigned_abs (read s n a)
magnitude-plain s n a some h z =
    elim (reading s n a some h) [
      | plain e _ ↦ rw e refl
      | below k e _ y ↦ absurd (omega (arith, y, z))
    ]

pub magnitude-below : (s : Bool) (n a : ℕ) → 1 ≤ n → a < 2 ^ n → (sign_bit a n s ≡ 0 → ⊥) → 2 ^ n - 1 - a + 1 ≡ unsigned_abs (read s n a)
magnitude-below s n a some h z =
    elim (reading s n a some h) [
      | plain _ y ↦ absurd (z y)
      | below k e w _ ↦ rw e (omega arith)
    ]

pub signed-letters : (s : Bool) (n m : ℕ) → n ≤ 64 → m < 2 ^ 64 → letters_of n (bit_and (cond s (0 + (2 ^ 64 - m)) m % 2 ^ 64) (2 ^ n - 1)) 0 ≡ wrap n (signed_number s m)
signed-letters s n m few h =
    wrapped-letters n (cond s (0 + (2 ^ 64 - m)) m) (signed_number s m) few
    (exact n (signed_number s m) (cond s (0 + (2 ^ 64 - m)) m) (signed-above s n m few (omega arith)))

pub whole_word : (m : ℕ) → m < 2 ^ 64 → m % 2 ^ 64 ≡ m
whole_word m h = omega arith

pub less-same : (s : Bool) (n a c : ℕ) → 1 ≤ n → a < 2 ^ n → c < 2 ^ n → sign_bit a n s ≡ sign_bit c n s → nat_lt a c ≡ int_lt (read s n a) (read s n c)
less-same s n a c some h g e =
    let same : nat_eq (sign_bit a n s) (sign_bit c n s) ≡ true = grind (arith, nat_tests) in
    rw (less-is s n a c some h g, same) refl

pub less-other : (s : Bool) (n a c : ℕ) → 1 ≤ n → a < 2 ^ n → c < 2 ^ n → (sign_bit a n s ≡ sign_bit c n s → ⊥) →
    nat_lt (sign_bit c n s) (sign_bit a n s) ≡ int_lt (read s n a) (read s n c)
less-other s n a c some h g ne = rw (less-is s n a c some h g, ne_eqb (sign_bit a n s) (sign_bit c n s) ne) refl
