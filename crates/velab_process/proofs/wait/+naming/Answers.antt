use Rattle.std.proofs.Common.{◌≡◌, ◌++◌, OnOk, refl, subst}
use Rattle.vast.specs.NumberedExpressions.{ExpressionTree}
use Rattle.vexpr_parse.specs.Texts.{words_of}
use Rattle.velab_process.specs.Waits.{any_of, names_in}
use Rattle.velab_expr.proofs.PartLemmas.{concatenation_is, replication_is}
use Rattle.velab_process.proofs.wait.+naming.Goals as goal

pub put_names-returns-in-Concatenation : goal.put_names-returns-in-Concatenation
put_names-returns-in-Concatenation t c =
    subst (λ (tree : ExpressionTree). OnOk c.put_part_names.result (c.put_part_names.new.terms.items ≡ c.args.terms.now.items ++ any_of c.args.scope.now (names_in tree)))
    (concatenation_is (words_of c.args.tokens.now) c.args.expression.now c.in-Concatenation.at c.in-Concatenation.parts
    c.deref-in-Concatenation.result.now c.in-Concatenation.is c.deref-in-Concatenation.ensures.value)
    c.put_part_names.ensures

pub put_names-returns-in-Replication : goal.put_names-returns-in-Replication
put_names-returns-in-Replication t c =
    subst (λ (tree : ExpressionTree). OnOk c.put_part_names-in-Replication.result (c.put_part_names-in-Replication.new.terms.items ≡ c.args.terms.now.items ++ any_of c.args.scope.now (names_in tree)))
    (replication_is (words_of c.args.tokens.now) c.args.expression.now c.in-Replication.at c.in-Replication.count c.in-Replication.parts
    c.in-Replication.count.value c.deref-in-Replication.result.now c.in-Replication.is refl c.deref-in-Replication.ensures.value)
    c.put_part_names-in-Replication.ensures
