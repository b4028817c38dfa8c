use Rattle.std.proofs.Common.{◌+◌, List, drop, sym, ap, ◌∙◌}
use Rattle.vast.specs.NumberedTrees.{tree_of, trees_of}
use Rattle.vast.specs.declared.expression.Expression.{Expression}
use Rattle.vexpr_parse.specs.Texts.{words_of}
use Rattle.velab_expr.specs.Answers.{behind}
use Rattle.velab_expr.proofs.AnswerLemmas.{goes_behind}
use Rattle.velab_expr.proofs.ListLemmas.{drop_at}
use Rattle.velab_process.specs.Statements.{lower_label, lower_labels}
use Rattle.velab_process.proofs.elaborator.Elaborator.put_labels.Goals as goal

pub loop-label-preserved : goal.loop-label-preserved
loop-label-preserved c =
    let words = words_of c.args.self.now.tokens.now in
    let scope = c.args.self.now.scope.now in
    let body = c.args.body.now in
    let rest = drop (c.loop-label.label-index + 1) c.args.labels.now in
    goes_behind c.loop-label.into.items (lower_label scope body (tree_of words c.label-item.result)) (lower_labels scope body (trees_of words rest))
    c.put_label.new.into.items c.in_ok-put_label.ensures
    ∙ ap (λ (l : List Expression). behind c.loop-label.into.items (lower_labels scope body (trees_of words l)))
    (sym (drop_at c.args.labels.now c.loop-label.label-index c.label-item.result c.loop-label-test.true c.label-item.is))
    ∙ c.loop-label.invariant
