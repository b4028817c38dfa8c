use Rattle.std.proofs.Common.{◌≡◌, ◌-◌, drop, map, List}
use Rattle.vwords.specs.Words.{Text}
use Rattle.vast.specs.NumberedTrees.{declared_tree}
use Rattle.action_origins.specs.Lengths.{length_of_each, declared_length}
use Rattle.action_origins.proofs.modules.past_each_declared.Given as goal

abbrev pub invariant-loop-one : goal.invariant-loop-one
invariant-loop-one l =
    (words : List Text) → l.left - length_of_each declared_length (map (declared_tree words) (drop l.one-index l.list)) ≡ l.initial.left - length_of_each declared_length (map (declared_tree words) l.list)
