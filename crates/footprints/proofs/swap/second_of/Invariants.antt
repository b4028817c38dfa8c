use Rattle.std.proofs.Common.{◌≡◌, ℕ, ◌≤◌, false, length}
use Rattle.footprints.specs.Swaps.{is_swap}
use Rattle.footprints.proofs.swap.second_of.Given as goal

abbrev pub invariant-loop-j : goal.invariant-loop-j
invariant-loop-j l = record {
  within : l.j ≤ length l.parent;
  none : (k : ℕ) → l.j ≤ k → is_swap l.run l.parent l.i k ≡ false;
}

abbrev pub decreases-loop-j : goal.decreases-loop-j
decreases-loop-j l = l.j
