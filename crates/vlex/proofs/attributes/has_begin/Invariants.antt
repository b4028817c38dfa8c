use Rattle.std.proofs.Common.{◌≡◌, ◌<◌, ◌≤◌, ◌-◌, ℕ, false, length, drop}
use Rattle.vlex.specs.Lexed.{opens}
use Rattle.vlex.specs.Tokenized.{pieces_of}
use Rattle.vlex.proofs.attributes.has_begin.Given as goal

-- none begins so far
abbrev pub invariant-loop-at : goal.invariant-loop-at
invariant-loop-at l = record {
  within : l.at ≤ length (pieces_of l.tokens);
  none : (at : ℕ) → at < l.at → opens (drop at (pieces_of l.tokens)) ≡ false;
}

abbrev pub decreases-loop-at : goal.decreases-loop-at
decreases-loop-at l = length (pieces_of l.tokens) - l.at
