use Rattle.std.proofs.Common.{◌≡◌, drop}
use Rattle.vast.specs.NumberedTrees.{trees_of}
use Rattle.vexpr_parse.specs.Texts.{words_of}
use Rattle.velab_expr.specs.Answers.{behind}
use Rattle.velab_expr.specs.InnerTargets.{lower_all_connected}
use Rattle.velab_expr.proofs.target.+connected.Given as goal

abbrev pub invariant-put_all_connected-loop-one : goal.invariant-put_all_connected-loop-one
invariant-put_all_connected-loop-one l =
    behind l.into.items (lower_all_connected l.scope (trees_of (words_of l.tokens) (drop l.one-index l.parts)))
    ≡ behind l.initial.into.items (lower_all_connected l.scope (trees_of (words_of l.tokens) l.parts))
