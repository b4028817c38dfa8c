use Rattle.std.proofs.Common.{◌≤◌, ◌-◌, length}
use Rattle.vlex.specs.Tokenized.{pieces_of}
use Rattle.vlex.proofs.Instances.{Leaves}
use Rattle.vlex.proofs.attributes.words.Given as goal

-- the words so far, and those of what is left
abbrev pub invariant-loop-at : goal.invariant-loop-at
invariant-loop-at l = record {
  within : l.at ≤ length (pieces_of l.tokens);
  leaves : Leaves l.tokens.source.text l.tokens.spans l.spans.items l.earlier l.last l.at;
}

abbrev pub decreases-loop-at : goal.decreases-loop-at
decreases-loop-at l = length (pieces_of l.tokens) - l.at
