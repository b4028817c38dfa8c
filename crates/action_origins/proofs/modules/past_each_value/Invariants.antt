use Rattle.std.proofs.Common.{◌≡◌, ◌-◌, drop, map, List}
use Rattle.vwords.specs.Words.{Text}
use Rattle.vast.specs.NumberedTrees.{tree_of}
use Rattle.action_origins.specs.Lengths.{length_of_each, expression_length}
use Rattle.action_origins.proofs.modules.past_each_value.Given as goal

abbrev pub invariant-loop-one : goal.invariant-loop-one
invariant-loop-one l =
    (words : List Text) → l.left - length_of_each expression_length (map (tree_of words) (drop l.one-index l.values)) ≡ l.initial.left - length_of_each expression_length (map (tree_of words) l.values)
