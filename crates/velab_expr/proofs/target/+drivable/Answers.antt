use Rattle.std.proofs.Common.{ap, ◌∙◌}
use Rattle.std.specs.Prelude.{is_some}
use Rattle.vast.specs.NumberedExpressions.{ExpressionTree}
use Rattle.vast.specs.NumberedTrees.{trees_of}
use Rattle.velab_expr.specs.Written.{target_of, targets_of}
use Rattle.velab_expr.proofs.ConnectedLemmas.{some_joined}
use Rattle.velab_expr.proofs.PartLemmas.{concatenation_is}
use Rattle.velab_expr.proofs.target.+drivable.Goals as goal

pub is_drivable-returns-in-Concatenation : goal.is_drivable-returns-in-Concatenation
is_drivable-returns-in-Concatenation t c words =
    c.are_drivable.ensures words
    ∙ some_joined (targets_of (trees_of words c.deref.result.now))
    ∙ ap (λ (tree : ExpressionTree). is_some (target_of tree))
    (concatenation_is words c.args.value.now c.in-Concatenation.at c.in-Concatenation.parts c.deref.result.now c.in-Concatenation.is c.deref.ensures.value)
