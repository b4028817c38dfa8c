-- The number that the letters of two planes stand for.
use Rattle.std.proofs.Common.{◌≡◌, ℕ, zero, suc, ◌/◌, ◌^◌, ◌<◌, refl, ap, arith, inl, inr}
use Rattle.std.specs.Prelude.{Some, None}
use Rattle.vbits.specs.Numbers.{number}
use Rattle.vbits.specs.Planes.{letters_of}
use Rattle.vbits.specs.PlanesBack.{bit_cases, half_within}

pub number-known : (n v : ℕ) → v < 2 ^ n → number (letters_of n v 0) ≡ Some v
number-known zero v h = ap Some (omega arith)
number-known (suc n) v h =
    let rest = number-known n (v / 2) (half_within n v h) in
    elim (bit_cases v) [
      | inl even ↦ rw (even, rest) (ap Some (omega arith))
      | inr odd ↦ rw (odd, rest) (ap Some (omega arith))
    ]

pub number-unknown : (n v u : ℕ) → u < 2 ^ n → (u ≡ 0 → ⊥) → number (letters_of n v u) ≡ None
number-unknown zero v u h ne = absurd (ne (omega arith))
number-unknown (suc n) v u h ne =
    elim (bit_cases u) [
      | inl even ↦
          let more : u / 2 ≡ 0 → ⊥ = λ none. ne (omega arith) in
          let rest = number-unknown n (v / 2) (u / 2) (half_within n u h) more in
          elim (bit_cases v) [ inl p ↦ rw (even, p, rest) refl | inr p ↦ rw (even, p, rest) refl ]
      | inr odd ↦ elim (bit_cases v) [ inl p ↦ rw (odd, p) refl | inr p ↦ rw (odd, p) refl ]
    ]
