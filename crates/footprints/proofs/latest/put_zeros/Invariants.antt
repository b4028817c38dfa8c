use Rattle.std.proofs.Common.{◌≡◌, ℕ, ◌+◌, ◌-◌, length}
use Rattle.footprints.specs.Latest.{number_at}
use Rattle.footprints.proofs.latest.put_zeros.Given as goal

abbrev pub invariant-loop-list : goal.invariant-loop-list
invariant-loop-list l = (k : ℕ) → number_at l.list.items k ≡ number_at l.initial.list.items k

abbrev pub decreases-loop-list : goal.decreases-loop-list
decreases-loop-list l = (l.place + 1) - length l.list.items
