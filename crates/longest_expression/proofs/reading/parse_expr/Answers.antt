use Rattle.longest_expression.proofs.LongestLaws.{longest}
use Rattle.longest_expression.proofs.reading.parse_expr.Goals as goal

pub returns-in-Ok-clause-longest : goal.returns-in-Ok-clause-longest
returns-in-Ok-clause-longest c =
    longest c.args.tokens.now c.args.at c.number_of.result c.at-cursor.result c.expression.new.cursor c.in-Ok.found.tree
    c.number_of.ensures.count c.at-cursor.ensures c.in-Ok.ensures.found c.in-Ok.ensures.reads.0 c.in-Ok.ensures.kept
