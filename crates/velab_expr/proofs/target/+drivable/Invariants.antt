use Rattle.std.proofs.Common.{◌≡◌, List, drop}
use Rattle.std.specs.Prelude.{is_some}
use Rattle.vast.specs.NumberedTrees.{trees_of}
use Rattle.vwords.specs.Words.{Text}
use Rattle.velab_expr.specs.Written.{targets_of}
use Rattle.velab_expr.proofs.target.+drivable.Given as goal

abbrev pub invariant-are_drivable-loop-one : goal.invariant-are_drivable-loop-one
invariant-are_drivable-loop-one l = (words : List Text) →
    is_some (targets_of (trees_of words (drop l.one-index l.parts))) ≡ is_some (targets_of (trees_of words l.parts))
