use Rattle.std.proofs.Common.{◌≡◌, ℕ, ◌<◌, false}
use Rattle.footprints.specs.Swaps.{is_swap}
use Rattle.footprints.proofs.swap.first_swap.Given as goal

abbrev pub invariant-loop-i : goal.invariant-loop-i
invariant-loop-i l = (k j : ℕ) → k < l.i → is_swap l.run l.parent k j ≡ false
