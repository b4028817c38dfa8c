use Rattle.std.proofs.Common.{ap, sym, ◌∙◌}
use Rattle.vast.specs.NumberedExpressions.{ExpressionTree}
use Rattle.vast.specs.NumberedTrees.{tree_of, trees_of}
use Rattle.vast.specs.TreeWords.{expression_words, expressions_words}
use Rattle.velab_expr.specs.FirstWords.{first_in}
use Rattle.velab_expr.specs.Rules.{number_in}
use Rattle.velab_expr.proofs.FirstLemmas.{first_later}
use Rattle.velab_expr.proofs.PartLemmas.{concatenation_is, replication_is}
use Rattle.velab_expr.proofs.first.+first_expressions.Goals as goal

pub first_in-returns-in-Concatenation : goal.first_in-returns-in-Concatenation
first_in-returns-in-Concatenation t c words =
    c.first_among.ensures words
    ∙ ap (λ (tree : ExpressionTree). number_in (first_in tree))
    (concatenation_is words c.args.expression.now c.in-Concatenation.at c.in-Concatenation.parts c.deref-in-Concatenation.result.now c.in-Concatenation.is c.deref-in-Concatenation.ensures.value)

pub first_in-returns-in-None : goal.first_in-returns-in-None
first_in-returns-in-None t c words =
    c.first_among-in-None.ensures words
    ∙ sym (first_later (expression_words (tree_of words c.deref-in-Replication.result.now)) (expressions_words (trees_of words c.deref-in-None.result.now))
    (sym (c.first_in-in-Replication.ensures words) ∙ c.in-None.is))
    ∙ ap (λ (tree : ExpressionTree). number_in (first_in tree))
    (replication_is words c.args.expression.now c.in-Replication.at c.in-Replication.count c.in-Replication.parts c.deref-in-Replication.result.now c.deref-in-None.result.now
    c.in-Replication.is c.deref-in-Replication.ensures c.deref-in-None.ensures.value)
