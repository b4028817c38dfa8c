use Rattle.std.proofs.Common.{◌≡◌, ◌-◌, drop, map, List}
use Rattle.vwords.specs.Words.{Text}
use Rattle.vast.specs.NumberedTrees.{head_parameter}
use Rattle.action_origins.specs.Lengths.{length_of_each, head_parameter_length}
use Rattle.action_origins.proofs.modules.past_each_head.Given as goal

abbrev pub invariant-loop-one : goal.invariant-loop-one
invariant-loop-one l =
    (words : List Text) → l.left - length_of_each head_parameter_length (map (head_parameter words) (drop l.one-index l.heads)) ≡ l.initial.left - length_of_each head_parameter_length (map (head_parameter words) l.heads)
