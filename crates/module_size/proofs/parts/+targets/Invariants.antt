use Rattle.std.proofs.Common.{◌≡◌, ◌-◌, drop, List}
use Rattle.vwords.specs.Words.{Text}
use Rattle.vast.specs.NumberedTrees.{target_trees}
use Rattle.module_size.specs.Sizes.{targets_size}
use Rattle.module_size.proofs.parts.+targets.Given as goal

abbrev pub invariant-take_targets-loop-one : goal.invariant-take_targets-loop-one
invariant-take_targets-loop-one l =
    (words : List Text) → l.left - targets_size (target_trees words (drop l.one-index l.targets)) ≡ l.initial.left - targets_size (target_trees words l.targets)
