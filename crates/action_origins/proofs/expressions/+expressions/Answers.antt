use Rattle.action_origins.proofs.PastLemmas.{concatenation_past, replication_past, parts_past}
use Rattle.action_origins.proofs.expressions.+expressions.Goals as goal

pub past_expression-returns-in-Concatenation : goal.past_expression-returns-in-Concatenation
past_expression-returns-in-Concatenation t c words =
    concatenation_past words c.args.left c.past_parts.result c.args.expression.now c.in-Concatenation.at c.in-Concatenation.parts c.deref-in-Concatenation.result.now
    c.saturating_sub-in-Concatenation.result c.in-Concatenation.is c.deref-in-Concatenation.ensures.value c.saturating_sub-in-Concatenation.ensures (c.past_parts.ensures words)

pub past_expression-returns-in-Replication : goal.past_expression-returns-in-Replication
past_expression-returns-in-Replication t c words =
    replication_past words c.args.left c.past_parts-in-Replication.result c.args.expression.now c.in-Replication.at c.in-Replication.count c.in-Replication.parts
    c.deref-in-Replication-2.result.now c.deref-in-Replication.result.now c.saturating_sub-in-Replication.result c.past_expression-in-Replication.result
    c.in-Replication.is c.deref-in-Replication-2.ensures c.deref-in-Replication.ensures.value
    c.saturating_sub-in-Replication.ensures (c.past_expression-in-Replication.ensures words) (c.past_parts-in-Replication.ensures words)

pub past_parts-returns : goal.past_parts-returns
past_parts-returns t c words =
    parts_past words c.args.left c.past_each.result c.args.parts.now c.is_empty.result c.past_end.result _ c.is_empty.ensures c.past_end.ensures (c.past_each.ensures words)
