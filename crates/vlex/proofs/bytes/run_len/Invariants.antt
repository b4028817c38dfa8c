use Rattle.std.proofs.Common.{◌≡◌, ℕ, ◌<◌, true, get_or}
use Rattle.vlex.specs.Bytes.{is_in}
use Rattle.vlex.proofs.bytes.run_len.Given as goal

abbrev pub invariant-loop-at : goal.invariant-loop-at
invariant-loop-at l = (k : ℕ) → k < l.at → is_in l.set (get_or l.bytes k 0) ≡ true
