-- Arithmetic and order of vectors, by the numbers of their planes.
use Rattle.std.proofs.Common.{◌≡◌, ℕ, ◌+◌, ◌-◌, ◌*◌, ◌/◌, ◌%◌, ◌^◌, ◌<◌, ◌≤◌, Bool, not, cond, ◌&&◌, refl, sym, ◌∙◌, ap, arith, inl, inr}
use Rattle.std.specs.Prelude.{bit_and, bit_or, nat_eq, unsigned_abs, pos, ℤ, Option, Some, None, neg_ℤ}
use Rattle.std.proofs.lemmas.Bool.{cases_eq}
use Rattle.std.proofs.lemmas.Nat.{le_or_l, le_or_r}
use Rattle.vbits.specs.declared.bit4.Bit4.TheVariants.{Zero, One, X}
use Rattle.vbits.specs.Numbers.{read, integer, wrap}
use Rattle.vbits.specs.Planes.{letters_of, Planes, sign_bit, signed_number}
use Rattle.vbits.specs.PlanesBack.{length-letters_of}
use Rattle.vbits.specs.Vectors.{Vector, filled, with_sign, single, combine_integers, result_letters, arithmetic, compared, test_letter, neg, add, sub, mul, div, rem, sum_of, difference_of, product_of, quotient_of, remainder_of}
use Rattle.vbits.proofs.NumbersOf.{number-known, number-unknown}
use Rattle.vbits.proofs.Operands.{Operands, same_len, four_of}
use Rattle.vbits.proofs.Views.{view_of}
use Rattle.vbits.proofs.Integers.{read-above, exact, sum-above, difference-above, product-same, negation-above, wrapped-letters, signs-differ, below-sign, quotient-signed, remainder-signed, quotient-some, remainder-some, abs-zero, read-zero}

left_zero : (b d : ℕ) → bit_or b d ≡ 0 → b ≡ 0
left_zero b d e = omega (arith, le_or_l b d)

right_zero : (b d : ℕ) → bit_or b d ≡ 0 → d ≡ 0
right_zero b d e = omega (arith, le_or_r b d)

integer-known : (s : Bool) (n a : ℕ) → a < 2 ^ n → integer s (letters_of n a 0) ≡ Some (read s n a)
integer-known s n a h = rw (number-known n a h, length-letters_of n a 0) refl

integer-unknown : (s : Bool) (n a b : ℕ) → b < 2 ^ n → (b ≡ 0 → ⊥) → integer s (letters_of n a b) ≡ None
integer-unknown s n a b h ne = rw (number-unknown n a b h ne) refl

-- ---- both known

known_views : (op : Vector → Vector → Vector) (n m a b c d : ℕ) (s t : Bool) (v w : Vector) → Operands n m a b c d s t v w → bit_or b d ≡ 0 →
    op (view_of n a 0 s) (view_of n c 0 t) ≡ op v w
known_views op n m a b c d s t v w o e =
    ap (λ k. op (view_of n a k s) (view_of n c 0 t)) (sym (left_zero b d e))
    ∙ ap (λ k. op (view_of n a b s) (view_of n c k t)) (sym (right_zero b d e))
    ∙ ap (λ k. op (view_of n a b s) (view_of k c d t)) (sym (same_len n m a b c d s t v w o))
    ∙ ap (λ z. op z (view_of m c d t)) o.left_is
    ∙ ap (op v) o.right_is

arithmetic-views : (op : ℤ → ℤ → Option ℤ) (n a c : ℕ) (s t : Bool) (x : Option ℤ) → a < 2 ^ n → c < 2 ^ n → op (read (s && t) n a) (read (s && t) n c) ≡ x →
    ◌≡◌ {A = Vector} (record { letters = result_letters n x; signed = s && t }) (arithmetic op (view_of n a 0 s) (view_of n c 0 t))
unfolding arithmetic
arithmetic-views op n a c s t x h g e =
    rw (integer-known (s && t) n a h, integer-known (s && t) n c g, length-letters_of n a 0, e) refl

-- a word with the digits of the result
pub arithmetic-word : (op : ℤ → ℤ → Option ℤ) (n m a b c d : ℕ) (s t : Bool) (v w : Vector) → Operands n m a b c d s t v w → bit_or b d ≡ 0 →
    (z : ℤ) → op (read (s && t) n a) (read (s && t) n c) ≡ Some z → (u : ℕ) → letters_of n u 0 ≡ wrap n z →
    view_of n u 0 (s && t) ≡ arithmetic op v w
arithmetic-word op n m a b c d s t v w o known z e u f =
    let four = four_of n m a b c d s t v w o in
    (λ i. record { letters = f i; signed = s && t })
    ∙ arithmetic-views op n a c s t (Some z) four.in_a four.in_c e
    ∙ known_views (arithmetic op) n m a b c d s t v w o known

-- no result
pub arithmetic-none : (op : ℤ → ℤ → Option ℤ) (n m a b c d : ℕ) (s t : Bool) (v w : Vector) → Operands n m a b c d s t v w → bit_or b d ≡ 0 →
    op (read (s && t) n a) (read (s && t) n c) ≡ None → with_sign (filled n X) (s && t) ≡ arithmetic op v w
unfolding filled with_sign
arithmetic-none op n m a b c d s t v w o known e =
    let four = four_of n m a b c d s t v w o in
    arithmetic-views op n a c s t None four.in_a four.in_c e
    ∙ known_views (arithmetic op) n m a b c d s t v w o known

compared-views : (test : ℤ → ℤ → Bool) (n a c : ℕ) (s t : Bool) → a < 2 ^ n → c < 2 ^ n →
    single (cond (test (read (s && t) n a) (read (s && t) n c)) One Zero) ≡ compared test (view_of n a 0 s) (view_of n c 0 t)
unfolding compared
compared-views test n a c s t h g = rw (integer-known (s && t) n a h, integer-known (s && t) n c g) refl

pub compared-known : (test : ℤ → ℤ → Bool) (n m a b c d : ℕ) (s t : Bool) (v w : Vector) → Operands n m a b c d s t v w → bit_or b d ≡ 0 →
    single (cond (test (read (s && t) n a) (read (s && t) n c)) One Zero) ≡ compared test v w
compared-known test n m a b c d s t v w o known =
    let four = four_of n m a b c d s t v w o in
    compared-views test n a c s t four.in_a four.in_c
    ∙ known_views (compared test) n m a b c d s t v w o known

-- ---- one unknown

combined-unknown : (op : ℤ → ℤ → Option ℤ) (s : Bool) (n a b c d : ℕ) → b < 2 ^ n → d < 2 ^ n → (bit_or b d ≡ 0 → ⊥) →
    combine_integers op (integer s (letters_of n a b)) (integer s (letters_of n c d)) ≡ None
combined-unknown op s n a b c d h g ne =
    elim (cases_eq b 0) [
      | inl e ↦
          let right : d ≡ 0 → ⊥ = λ f. ne (rw (e, f) refl) in
          rw (integer-unknown s n c d g right) (combined-none op (integer s (letters_of n a b)))
      | inr more ↦ rw (integer-unknown s n a b h more) refl
    ]
  where
    combined-none : (op : ℤ → ℤ → Option ℤ) (x : Option ℤ) → combine_integers op x None ≡ None
    combined-none op None = refl
    combined-none op (Some x) = refl

test_letter-unknown : (test : ℤ → ℤ → Bool) (s : Bool) (n a b c d : ℕ) → b < 2 ^ n → d < 2 ^ n → (bit_or b d ≡ 0 → ⊥) →
    test_letter test (integer s (letters_of n a b)) (integer s (letters_of n c d)) ≡ X
test_letter-unknown test s n a b c d h g ne =
    elim (cases_eq b 0) [
      | inl e ↦
          let right : d ≡ 0 → ⊥ = λ f. ne (rw (e, f) refl) in
          rw (integer-unknown s n c d g right) (test_letter-none test (integer s (letters_of n a b)))
      | inr more ↦ rw (integer-unknown s n a b h more) refl
    ]
  where
    test_letter-none : (test : ℤ → ℤ → Bool) (x : Option ℤ) → test_letter test x None ≡ X
    test_letter-none test None = refl
    test_letter-none test (Some x) = refl

arithmetic-unknown_views : (op : ℤ → ℤ → Option ℤ) (n a b c d : ℕ) (s t : Bool) → b < 2 ^ n → d < 2 ^ n → (bit_or b d ≡ 0 → ⊥) →
    with_sign (filled n X) (s && t) ≡ arithmetic op (view_of n a b s) (view_of n c d t)
unfolding arithmetic filled with_sign
arithmetic-unknown_views op n a b c d s t h g ne =
    rw (combined-unknown op (s && t) n a b c d h g ne, length-letters_of n a b) refl

pub arithmetic-unknown : (op : ℤ → ℤ → Option ℤ) (n m a b c d : ℕ) (s t : Bool) (v w : Vector) → Operands n m a b c d s t v w → (bit_or b d ≡ 0 → ⊥) →
    with_sign (filled n X) (s && t) ≡ arithmetic op v w
arithmetic-unknown op n m a b c d s t v w o ne =
    let four = four_of n m a b c d s t v w o in
    arithmetic-unknown_views op n a b c d s t four.in_b four.in_d ne
    ∙ ap (λ k. arithmetic op (view_of n a b s) (view_of k c d t)) (sym (same_len n m a b c d s t v w o))
    ∙ ap (λ z. arithmetic op z (view_of m c d t)) o.left_is
    ∙ ap (arithmetic op v) o.right_is

compared-unknown_views : (test : ℤ → ℤ → Bool) (n a b c d : ℕ) (s t : Bool) → b < 2 ^ n → d < 2 ^ n → (bit_or b d ≡ 0 → ⊥) →
    single X ≡ compared test (view_of n a b s) (view_of n c d t)
unfolding compared
compared-unknown_views test n a b c d s t h g ne = rw (test_letter-unknown test (s && t) n a b c d h g ne) refl

pub compared-unknown : (test : ℤ → ℤ → Bool) (n m a b c d : ℕ) (s t : Bool) (v w : Vector) → Operands n m a b c d s t v w → (bit_or b d ≡ 0 → ⊥) →
    single X ≡ compared test v w
compared-unknown test n m a b c d s t v w o ne =
    let four = four_of n m a b c d s t v w o in
    compared-unknown_views test n a b c d s t four.in_b four.in_d ne
    ∙ ap (λ k. compared test (view_of n a b s) (view_of k c d t)) (sym (same_len n m a b c d s t v w o))
    ∙ ap (λ z. compared test z (view_of m c d t)) o.left_is
    ∙ ap (compared test v) o.right_is

-- ---- negation

pub neg-known : (n a : ℕ) (s : Bool) (v : Vector) → a < 2 ^ n → view_of n a 0 s ≡ v → (u : ℕ) → letters_of n u 0 ≡ wrap n (neg_ℤ (read s n a)) →
    view_of n u 0 s ≡ neg v
unfolding neg
neg-known n a s v h e u f =
    rw (← e, integer-known s n a h, length-letters_of n a 0) (λ i. record { letters = f i; signed = s })

pub neg-unknown : (n a b : ℕ) (s : Bool) (v : Vector) → b < 2 ^ n → view_of n a b s ≡ v → (b ≡ 0 → ⊥) → with_sign (filled n X) s ≡ neg v
unfolding neg filled with_sign
neg-unknown n a b s v h e ne = rw (← e, integer-unknown s n a b h ne, length-letters_of n a b) refl

-- ---- each operator

pub add-view : (n m a b c d : ℕ) (s t : Bool) (v w : Vector) → Operands n m a b c d s t v w → bit_or b d ≡ 0 →
    view_of n (bit_and ((a + c) % 2 ^ 64) (2 ^ n - 1)) 0 (s && t) ≡ add v w
add-view n m a b c d s t v w o known =
    let four = four_of n m a b c d s t v w o in
    let x = read-above (s && t) n a o.left.some four.in_a in
    let y = read-above (s && t) n c o.left.some four.in_c in
    arithmetic-word sum_of n m a b c d s t v w o known _ refl _
    (wrapped-letters n (a + c) _ o.left.few (exact n _ (a + c) (sum-above n _ _ a c x y)))

pub sub-view : (n m a b c d : ℕ) (s t : Bool) (v w : Vector) → Operands n m a b c d s t v w → bit_or b d ≡ 0 →
    view_of n (bit_and ((a + (2 ^ 64 - c)) % 2 ^ 64) (2 ^ n - 1)) 0 (s && t) ≡ sub v w
sub-view n m a b c d s t v w o known =
    let four = four_of n m a b c d s t v w o in
    let x = read-above (s && t) n a o.left.some four.in_a in
    arithmetic-word difference_of n m a b c d s t v w o known _ refl _
    (wrapped-letters n (a + (2 ^ 64 - c)) _ o.left.few
    (exact n _ (a + (2 ^ 64 - c)) (difference-above (s && t) n _ a c x o.left.some o.left.few four.in_c)))

pub mul-view : (n m a b c d : ℕ) (s t : Bool) (v w : Vector) → Operands n m a b c d s t v w → bit_or b d ≡ 0 →
    view_of n (bit_and ((a * c) % 2 ^ 64) (2 ^ n - 1)) 0 (s && t) ≡ mul v w
mul-view n m a b c d s t v w o known =
    let four = four_of n m a b c d s t v w o in
    arithmetic-word product_of n m a b c d s t v w o known _ refl _
    (wrapped-letters n (a * c) _ o.left.few (product-same (s && t) (s && t) n a c o.left.some four.in_a four.in_c))

pub div-view : (n m a b c d : ℕ) (s t : Bool) (v w : Vector) → Operands n m a b c d s t v w → bit_or b d ≡ 0 →
    (unsigned_abs (read (s && t) n c) ≡ 0 → ⊥) → (u : ℕ) →
    letters_of n u 0 ≡ wrap n (signed_number (not (nat_eq (sign_bit a n (s && t)) (sign_bit c n (s && t)))) (unsigned_abs (read (s && t) n a) / unsigned_abs (read (s && t) n c))) →
    view_of n u 0 (s && t) ≡ div v w
div-view n m a b c d s t v w o known ne u e =
    let four = four_of n m a b c d s t v w o in
    let signs = signs-differ (s && t) n a c o.left.some four.in_a four.in_c in
    arithmetic-word quotient_of n m a b c d s t v w o known _ (quotient-some _ _ ne) u
    (e ∙ rw (signs, ← quotient-signed (read (s && t) n a) (read (s && t) n c)) refl)

pub rem-view : (n m a b c d : ℕ) (s t : Bool) (v w : Vector) → Operands n m a b c d s t v w → bit_or b d ≡ 0 →
    (unsigned_abs (read (s && t) n c) ≡ 0 → ⊥) → (u : ℕ) →
    letters_of n u 0 ≡ wrap n (signed_number (nat_eq (sign_bit a n (s && t)) 1) (unsigned_abs (read (s && t) n a) % unsigned_abs (read (s && t) n c))) →
    view_of n u 0 (s && t) ≡ rem v w
rem-view n m a b c d s t v w o known ne u e =
    let four = four_of n m a b c d s t v w o in
    let sign = below-sign (s && t) n a o.left.some four.in_a in
    arithmetic-word remainder_of n m a b c d s t v w o known _ (remainder-some _ _ ne) u
    (e ∙ rw (← sign, ← remainder-signed (read (s && t) n a) (read (s && t) n c)) refl)

-- division by 0
zero_read : (s : Bool) (n c : ℕ) → 1 ≤ n → c < 2 ^ n → unsigned_abs (read s n c) ≡ 0 → read s n c ≡ pos 0
zero_read s n c some h e = rw (abs-zero s n c some h e) (read-zero s n)

pub div-by_zero : (n m a b c d : ℕ) (s t : Bool) (v w : Vector) → Operands n m a b c d s t v w → bit_or b d ≡ 0 →
    unsigned_abs (read (s && t) n c) ≡ 0 → with_sign (filled n X) (s && t) ≡ div v w
div-by_zero n m a b c d s t v w o known e =
    let four = four_of n m a b c d s t v w o in
    arithmetic-none quotient_of n m a b c d s t v w o known (rw (zero_read (s && t) n c o.left.some four.in_c e) refl)

pub rem-by_zero : (n m a b c d : ℕ) (s t : Bool) (v w : Vector) → Operands n m a b c d s t v w → bit_or b d ≡ 0 →
    unsigned_abs (read (s && t) n c) ≡ 0 → with_sign (filled n X) (s && t) ≡ rem v w
rem-by_zero n m a b c d s t v w o known e =
    let four = four_of n m a b c d s t v w o in
    arithmetic-none remainder_of n m a b c d s t v w o known (rw (zero_read (s && t) n c o.left.some four.in_c e) refl)

pub neg-view : (n a b : ℕ) (s : Bool) (v : Vector) → Planes n a b → view_of n a b s ≡ v → b ≡ 0 →
    view_of n (bit_and ((0 + (2 ^ 64 - a)) % 2 ^ 64) (2 ^ n - 1)) 0 s ≡ neg v
neg-view n a b s v h e known =
    neg-known n a s v h.value_within (ap (λ k. view_of n a k s) (sym known) ∙ e) _
    (wrapped-letters n (0 + (2 ^ 64 - a)) _ h.few (exact n _ (0 + (2 ^ 64 - a)) (negation-above s n a h.some h.few h.value_within)))

pub right_below : (n m a b c d : ℕ) (s t : Bool) (v w : Vector) → Operands n m a b c d s t v w → c < 2 ^ n
right_below n m a b c d s t v w o = let four = four_of n m a b c d s t v w o in four.in_c
