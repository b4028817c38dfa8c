use Rattle.std.proofs.Common.{◌≡◌, ℕ, ◌<◌, None}
use Rattle.vcd_slots.specs.Following.{told_at}
use Rattle.vcd_slots.proofs.columns.forget.Given as goal

abbrev pub invariant-loop-value : goal.invariant-loop-value
invariant-loop-value l = (k : ℕ) → k < l.value-index → told_at l.told k ≡ None
