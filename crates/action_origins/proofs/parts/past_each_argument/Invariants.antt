use Rattle.std.proofs.Common.{◌≡◌, ◌-◌, drop, map, List}
use Rattle.vwords.specs.Words.{Text}
use Rattle.vast.specs.NumberedTrees.{argument_tree}
use Rattle.action_origins.specs.Lengths.{length_of_each, argument_length}
use Rattle.action_origins.proofs.parts.past_each_argument.Given as goal

abbrev pub invariant-loop-one : goal.invariant-loop-one
invariant-loop-one l =
    (words : List Text) → l.left - length_of_each argument_length (map (argument_tree words) (drop l.one-index l.arguments)) ≡ l.initial.left - length_of_each argument_length (map (argument_tree words) l.arguments)
