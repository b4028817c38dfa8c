-- A set of processes as one number.
use Rattle.std.proofs.Common.{◌≡◌, ℕ, zero, suc, ◌+◌, ◌*◌, ◌/◌, ◌%◌, ◌^◌, ◌<◌, Bool, true, false, ◌==◌, nat_lt, refl, sym, ap, ◌∙◌, arith}
use Rattle.std.specs.Int.{bit_at}
use Rattle.std.proofs.Math.Nat.{pow-suc, div-add-mod, add-mul, mul_assoc}
use Rattle.std.proofs.lemmas.Nat.{mod-mul-add, div-mul-add}
use Rattle.std.proofs.lemmas.Bool.Decides.{nat_tests}
use Rattle.std.proofs.lemmas.Nat.Bits.{bit_at-suc, bit_at_lowest, bit_at_cat_low, bit_at_cat_high}
use Rattle.std.proofs.lemmas.Bool.{ltb-false}
use Rattle.vmodel.specs.ProcessSets.{has, listed, members, number_of}
use Rattle.vmodel.proofs.BitLemmas.{listed_none, listed_when, listed_unless, members_are, has_low, has_high}
use Rattle.vmodel.proofs.ProcessLemmas.{lt_true}

below_two : (n k : ℕ) → n < 2 ^ suc k → n / 2 < 2 ^ k
below_two n k lt = omega (arith, lt, pow-suc 2 k, div-add-mod n 2)

is_one : (r : ℕ) → (r == 1) ≡ true → r ≡ 1
is_one r e = grind (arith, nat_tests)

isnt_one : (r : ℕ) → r < 2 → (r == 1) ≡ false → r ≡ 0
isnt_one r lt e = grind (arith, nat_tests)

bits_two : (n : ℕ) → n % 2 < 2
bits_two n = omega arith

doubled : (q w : ℕ) → q * (w * 2) ≡ 2 * q * w
doubled q w = omega (arith, mul_assoc q w 2, mul_assoc 2 q w)

odd : (q n w : ℕ) → 2 * q + 1 ≡ n → w + q * (w * 2) ≡ n * w
odd q n w split = omega (arith, doubled q w, add-mul (2 * q) 1 w, ap (λ m. m * w) split)

even : (q n w : ℕ) → 2 * q ≡ n → q * (w * 2) ≡ n * w
even q n w split = doubled q w ∙ ap (λ m. m * w) split

nothing : (w : ℕ) → 0 ≡ 0 * w
nothing w = omega arith

-- a test that says which bits of a number are set, from a place on
number_listed : (f : ℕ → Bool) (count from n : ℕ) → n < 2 ^ count → ((i : ℕ) → i < count → f (from + i) ≡ (bit_at n i == 1)) →
    number_of (listed f count from) ≡ n * 2 ^ from
number_listed f zero from n lt is = ap number_of (listed_none f from) ∙ nothing (2 ^ from) ∙ ap (λ m. m * 2 ^ from) none
  where
    none : 0 ≡ n
    none = omega (arith, lt)
number_listed f (suc count) from n lt is =
    let rest : number_of (listed f count (suc from)) ≡ n / 2 * 2 ^ suc from =
    number_listed f count (suc from) (n / 2) (below_two n count lt) later in
    by rest (f from) refl
  where
    later : (i : ℕ) → i < count → f (suc from + i) ≡ (bit_at (n / 2) i == 1)
    later i below = ap f (omega arith) ∙ is (suc i) (omega (arith, below)) ∙ ap (λ b. b == 1) (bit_at-suc n i)

    here : f from ≡ (n % 2 == 1)
    here = ap f (omega arith) ∙ is 0 (omega arith) ∙ ap (λ b. b == 1) (bit_at_lowest n)

    by : number_of (listed f count (suc from)) ≡ n / 2 * 2 ^ suc from → (b : Bool) → f from ≡ b → number_of (listed f (suc count) from) ≡ n * 2 ^ from
    by rest true set =
        let one : n % 2 ≡ 1 = is_one (n % 2) (sym here ∙ set) in
        ap number_of (listed_when f count from set)
        ∙ ap (λ m. 2 ^ from + m) (rest ∙ ap (λ m. n / 2 * m) (pow-suc 2 from))
        ∙ odd (n / 2) n (2 ^ from) (omega (arith, div-add-mod n 2, one))
    by rest false clear =
        let none : n % 2 ≡ 0 = isnt_one (n % 2) (bits_two n) (sym here ∙ clear) in
        ap number_of (listed_unless f count from clear)
        ∙ (rest ∙ ap (λ m. n / 2 * m) (pow-suc 2 from))
        ∙ even (n / 2) n (2 ^ from) (omega (arith, div-add-mod n 2, none))

both_halves : (low high : ℕ) → low < 2 ^ 128 → high < 2 ^ 128 → number_of (members low high) ≡ high * 2 ^ 128 + low
both_halves low high few many =
    ap number_of (members_are low high)
    ∙ number_listed (has low high) 256 0 (high * 2 ^ 128 + low) (omega (arith, few, many)) bits
    ∙ omega arith
  where
    bits : (i : ℕ) → i < 256 → has low high (0 + i) ≡ (bit_at (high * 2 ^ 128 + low) i == 1)
    bits i lt = ap (has low high) (omega arith) ∙ by (nat_lt i 128) refl
      where
        by : (b : Bool) → nat_lt i 128 ≡ b → has low high i ≡ (bit_at (high * 2 ^ 128 + low) i == 1)
        by true is = let below = lt_true i 128 is in
            has_low low high i below ∙ ap (λ b. b == 1) (sym (bit_at_cat_low high 128 low i below))
        by false is = let above = ltb-false i 128 is in
            has_high low high i above ∙ ap (λ b. b == 1) (sym (bit_at_cat_high high 128 low i few above))

pub low_half : (low high : ℕ) → low < 2 ^ 128 → high < 2 ^ 128 → low ≡ number_of (members low high) % 2 ^ 128
low_half low high few many = sym (ap (λ n. n % 2 ^ 128) (both_halves low high few many) ∙ mod-mul-add high (2 ^ 128) low few)

pub high_half : (low high : ℕ) → low < 2 ^ 128 → high < 2 ^ 128 → high ≡ number_of (members low high) / 2 ^ 128
high_half low high few many = sym (ap (λ n. n / 2 ^ 128) (both_halves low high few many) ∙ div-mul-add high (2 ^ 128) low few)
