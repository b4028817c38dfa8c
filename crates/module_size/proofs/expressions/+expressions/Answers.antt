use Rattle.module_size.proofs.SizeLemmas.{concatenation_left, replication_left}
use Rattle.module_size.proofs.expressions.+expressions.Goals as goal

pub take_expression-returns-in-Concatenation : goal.take_expression-returns-in-Concatenation
take_expression-returns-in-Concatenation t c words =
    concatenation_left words c.args.left c.take_expressions.result c.args.expression.now c.in-Concatenation.at c.in-Concatenation.parts c.deref-in-Concatenation.result.now
    c.in-Concatenation.is c.deref-in-Concatenation.ensures.value (c.take_expressions.ensures words)

pub take_expression-returns-in-Replication : goal.take_expression-returns-in-Replication
take_expression-returns-in-Replication t c words =
    replication_left words c.args.left c.take_expressions-in-Replication.result c.args.expression.now c.in-Replication.at c.in-Replication.count c.in-Replication.parts
    c.deref-in-Replication-2.result.now c.deref-in-Replication.result.now c.take_expression-in-Replication.result
    c.in-Replication.is c.deref-in-Replication-2.ensures c.deref-in-Replication.ensures.value (c.take_expression-in-Replication.ensures words) (c.take_expressions-in-Replication.ensures words)
