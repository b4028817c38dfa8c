use Rattle.std.proofs.Common.{◌≡◌, ℕ, ◌<◌, true, get_or}
use Rattle.vcd_read.specs.Declarations.{is_no_bracket}
use Rattle.vcd_read.proofs.header.name_len.Given as goal

abbrev pub invariant-loop-at : goal.invariant-loop-at
invariant-loop-at l = (k : ℕ) → k < l.at → is_no_bracket (get_or l.reference k 0) ≡ true
