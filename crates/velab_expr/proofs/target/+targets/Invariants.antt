use Rattle.std.proofs.Common.{◌≡◌, drop}
use Rattle.vast.specs.NumberedTrees.{target_trees}
use Rattle.vexpr_parse.specs.Texts.{words_of}
use Rattle.velab_expr.specs.Answers.{behind}
use Rattle.velab_expr.specs.Written.{lower_targets_by}
use Rattle.velab_expr.proofs.target.+targets.Given as goal

abbrev pub invariant-put_targets-loop-one : goal.invariant-put_targets-loop-one
invariant-put_targets-loop-one l =
    behind l.into.items (lower_targets_by l.fixed l.scope (target_trees (words_of l.tokens) (drop l.one-index l.targets)))
    ≡ behind l.initial.into.items (lower_targets_by l.fixed l.scope (target_trees (words_of l.tokens) l.targets))
