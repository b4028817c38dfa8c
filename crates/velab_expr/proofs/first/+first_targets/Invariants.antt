use Rattle.std.proofs.Common.{◌≡◌, List, drop}
use Rattle.vast.specs.NumberedTrees.{target_trees}
use Rattle.vwords.specs.Words.{Text}
use Rattle.velab_expr.specs.FirstWords.{first_targets}
use Rattle.velab_expr.specs.Rules.{number_in}
use Rattle.velab_expr.proofs.first.+first_targets.Given as goal

abbrev pub invariant-first_targets-loop-one : goal.invariant-first_targets-loop-one
invariant-first_targets-loop-one l = (words : List Text) →
    number_in (first_targets (target_trees words (drop l.one-index l.targets))) ≡ number_in (first_targets (target_trees words l.targets))
