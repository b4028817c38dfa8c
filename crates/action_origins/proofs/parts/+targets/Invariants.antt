use Rattle.std.proofs.Common.{◌≡◌, ◌-◌, drop, List}
use Rattle.vwords.specs.Words.{Text}
use Rattle.vast.specs.NumberedTrees.{target_trees}
use Rattle.action_origins.specs.Lengths.{each_target}
use Rattle.action_origins.proofs.parts.+targets.Given as goal

abbrev pub invariant-past_each_target-loop-one : goal.invariant-past_each_target-loop-one
invariant-past_each_target-loop-one l =
    (words : List Text) → l.left - each_target (target_trees words (drop l.one-index l.targets)) ≡ l.initial.left - each_target (target_trees words l.targets)
