use Rattle.std.proofs.Common.{sym, ◌∙◌}
use Rattle.vexpr_parse.specs.Answers.{leaf_here}
use Rattle.vstatement_parse.proofs.LeafWords.{start_leaf}
use Rattle.vstatement_parse.proofs.statements.at_level.Goals as goal

pub statement_by_word-requires-clause-plain : goal.statement_by_word-requires-clause-plain
statement_by_word-requires-clause-plain g c =
    let word = c.in-Some.word in
    start_leaf word.text.now word.token (leaf_here c.args.tokens.now c.args.cursor.now) c.in-Some.ensures.leaf c.in-Some-start_of.start
    (sym c.start_of.ensures ∙ c.in-Some-start_of.is)
