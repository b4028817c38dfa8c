-- Facts about numbers: what follows of a comparison, and what a test of one gives.
use Rattle.std.proofs.Common.{◌≡◌, ℕ, suc, ◌<◌, true, nat_le, refl, arith}
use Rattle.std.specs.Ordering.{nat_cmp}
use Rattle.std.specs.declared.cmp.Ordering.TheVariants.{Less, Equal}
use Rattle.std.proofs.lemmas.Bool.Decides.{nat_tests}
use Rattle.std.proofs.lemmas.Cmp.{ranked}

pub one_within : (n : ℕ) → nat_le 1 (suc n) ≡ true
one_within n = grind (arith, nat_tests)

pub equal_numbers : (a b : ℕ) → nat_cmp a b ≡ Equal → a ≡ b
equal_numbers a b e = rw e at (ranked a b (nat_cmp a b) refl)

pub less_numbers : (a b : ℕ) → nat_cmp a b ≡ Less → a < b
less_numbers a b e = rw e at (ranked a b (nat_cmp a b) refl)
