-- Codes are told apart.
use Rattle.std.proofs.Common.{◌≡◌, ℕ, ◌+◌, true, false, refl, ap, inl, inr, arith}
use Rattle.std.specs.Prelude.{nat_eq}
use Rattle.std.specs.Cmp.Lexicographic.{bytes_decides, pointwise}
use Rattle.std.proofs.lemmas.Bool.{cases_Bool}
use Rattle.vcd_text.specs.CodeLaws.{number_of}
use Rattle.vcd_text.specs.DumpText.{code}
use Rattle.vcd_text.proofs.CodeLemmas.{code_number}

pub code_same : (n : ℕ) → pointwise nat_eq (code n) (code n) ≡ true
code_same n = (bytes_decides (code n) (code n)).1 refl

one_code : (m n : ℕ) → code m ≡ code n → m ≡ n
one_code m n is =
    let left : number_of (code m) ≡ m + 1 = code_number m in
    let right : number_of (code n) ≡ n + 1 = code_number n in
    let same : number_of (code m) ≡ number_of (code n) = ap number_of is in
    omega arith

pub code_differs : (m n : ℕ) → (m ≡ n → ⊥) → pointwise nat_eq (code m) (code n) ≡ false
code_differs m n ne = elim (cases_Bool (pointwise nat_eq (code m) (code n))) [
  | inl same ↦ absurd (ne (one_code m n ((bytes_decides (code m) (code n)).0 same)))
  | inr other ↦ other
]
