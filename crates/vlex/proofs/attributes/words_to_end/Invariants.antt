use Rattle.std.proofs.Common.{◌≤◌, ◌-◌, length}
use Rattle.vlex.specs.Tokenized.{pieces_of}
use Rattle.vlex.proofs.Instances.{Follows}
use Rattle.vlex.proofs.attributes.words_to_end.Given as goal

-- what is found from here on
abbrev pub invariant-loop-at : goal.invariant-loop-at
invariant-loop-at l = record {
  low : l.from ≤ l.at;
  within : l.at ≤ length (pieces_of l.tokens);
  follows : Follows (pieces_of l.tokens) l.from l.at l.part;
}

abbrev pub decreases-loop-at : goal.decreases-loop-at
decreases-loop-at l = length (pieces_of l.tokens) - l.at
