use Rattle.std.proofs.Common.{◌≡◌, drop}
use Rattle.vast.specs.NumberedTrees.{trees_of}
use Rattle.vexpr_parse.specs.Texts.{words_of}
use Rattle.velab_expr.specs.Answers.{behind}
use Rattle.velab_process.specs.Statements.{lower_labels}
use Rattle.velab_process.proofs.elaborator.Elaborator.put_labels.Given as goal

abbrev pub invariant-loop-label : goal.invariant-loop-label
invariant-loop-label l =
    behind l.into.items (lower_labels l.self.scope.now l.body (trees_of (words_of l.self.tokens.now) (drop l.label-index l.labels)))
    ≡ behind l.initial.into.items (lower_labels l.self.scope.now l.body (trees_of (words_of l.self.tokens.now) l.labels))
