-- *internal*: The planes can be read back from the letters.
use Rattle.std.specs.Prelude.{◌≡◌, ℕ, zero, suc, ◌/◌, ◌%◌, ◌^◌, ◌<◌, ◌⊎◌, length, refl}
use Rattle.std.proofs.Common.{inl, inr, ap, arith}
use Rattle.std.proofs.lemmas.Bool.{cases_lt}
use Rattle.vbits.specs.Planes.{letter, letters_of, value_bit, unknown_bit, values_of, unknowns_of}

-- a bit is 0 or 1
pub bit_cases : (n : ℕ) → (n % 2 ≡ 0) ⊎ (n % 2 ≡ 1)
bit_cases n = elim (cases_lt (n % 2) 1) [ inl low ↦ inl (omega arith) | inr high ↦ inr (omega arith) ]

pub value_bit-letter : (v u : ℕ) → value_bit (letter (v % 2) (u % 2)) ≡ v % 2
value_bit-letter v u =
    elim (bit_cases v) [
      | inl p ↦ elim (bit_cases u) [ inl q ↦ rw (p, q) refl | inr q ↦ rw (p, q) refl ]
      | inr p ↦ elim (bit_cases u) [ inl q ↦ rw (p, q) refl | inr q ↦ rw (p, q) refl ]
    ]

pub unknown_bit-letter : (v u : ℕ) → unknown_bit (letter (v % 2) (u % 2)) ≡ u % 2
unknown_bit-letter v u =
    elim (bit_cases v) [
      | inl p ↦ elim (bit_cases u) [ inl q ↦ rw (p, q) refl | inr q ↦ rw (p, q) refl ]
      | inr p ↦ elim (bit_cases u) [ inl q ↦ rw (p, q) refl | inr q ↦ rw (p, q) refl ]
    ]

pub half_within : (n v : ℕ) → v < 2 ^ suc n → v / 2 < 2 ^ n
half_within n v h = omega arith

pub length-letters_of : (n v u : ℕ) → length (letters_of n v u) ≡ n
length-letters_of zero v u = refl
length-letters_of (suc n) v u = ap suc (length-letters_of n (v / 2) (u / 2))

pub values_of-letters_of : (n v u : ℕ) → v < 2 ^ n → values_of (letters_of n v u) ≡ v
values_of-letters_of zero v u h = omega arith
values_of-letters_of (suc n) v u h =
    let e = values_of-letters_of n (v / 2) (u / 2) (half_within n v h) in
    rw (e, value_bit-letter) (omega arith)

pub unknowns_of-letters_of : (n v u : ℕ) → u < 2 ^ n → unknowns_of (letters_of n v u) ≡ u
unknowns_of-letters_of zero v u h = omega arith
unknowns_of-letters_of (suc n) v u h =
    let e = unknowns_of-letters_of n (v / 2) (u / 2) (half_within n u h) in
    rw (e, unknown_bit-letter) (omega arith)
