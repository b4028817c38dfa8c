use Rattle.std.proofs.Common.{◌≡◌, ℕ, ◌<◌, true, get_or}
use Rattle.dump_match.specs.Scopes.{is_no_dot}
use Rattle.dump_match.proofs.scopes.part_len.Given as goal

abbrev pub invariant-loop-at : goal.invariant-loop-at
invariant-loop-at l = (k : ℕ) → k < l.at → is_no_dot (get_or l.name k 0) ≡ true
