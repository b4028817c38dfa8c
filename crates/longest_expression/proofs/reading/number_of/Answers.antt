use Rattle.longest_expression.proofs.LongestLaws.{counted}
use Rattle.vexpr_parse.specs.Answers.{ahead}
use Rattle.longest_expression.proofs.reading.number_of.Goals as goal

pub returns-clause-count : goal.returns-clause-count
returns-clause-count c =
    counted c.args.tokens.now (ahead c.args.tokens.now c.args.cursor.now) c.len.result c.left.result c.saturating_sub.result c.len.ensures.value c.left.ensures
    c.saturating_sub.ensures
