use Rattle.std.proofs.Common.{◌≡◌, ℕ, true, Some, slice_get}
use Rattle.footprints.proofs.swap.falses.Given as goal

abbrev pub invariant-loop : goal.invariant-loop
invariant-loop l = (k : ℕ) → slice_get l.list.items k ≡ Some true → ⊥
