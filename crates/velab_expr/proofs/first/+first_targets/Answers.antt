use Rattle.std.proofs.Common.{ap, ◌∙◌}
use Rattle.vast.specs.NumberedStatements.{TargetTree}
use Rattle.velab_expr.specs.FirstWords.{first_target}
use Rattle.velab_expr.specs.Rules.{number_in}
use Rattle.velab_expr.proofs.TargetLemmas.{joined_is}
use Rattle.velab_expr.proofs.first.+first_targets.Goals as goal

pub first_target-returns-in-Joined : goal.first_target-returns-in-Joined
first_target-returns-in-Joined t c words =
    c.first_targets.ensures words
    ∙ ap (λ (tree : TargetTree). number_in (first_target tree))
    (joined_is words c.args.target.now c.in-Joined.at c.in-Joined.targets c.deref.result.now c.in-Joined.is c.deref.ensures.value)
