use Rattle.std.proofs.Common.{◌≡◌, ◌-◌, length, map, List}
use Rattle.vwords.specs.Words.{Text}
use Rattle.vast.specs.NumberedTrees.{further_term}
use Rattle.action_origins.specs.Lengths.{further_length}
use Rattle.action_origins.proofs.parts.past_further.Given as goal

abbrev pub invariant-loop-one : goal.invariant-loop-one
invariant-loop-one l =
    (words : List Text) → l.left - further_length (map (further_term words) l.rest) ≡ l.initial.left - further_length (map (further_term words) l.initial.rest)

abbrev pub decreases-loop-one : goal.decreases-loop-one
decreases-loop-one l = length l.rest
