use Rattle.vexpr_parse.specs.Texts.{words_of}
use Rattle.vexpr_parse.specs.Answers.{ahead}
use Rattle.vstatement_parse.proofs.CaseTurns.{gives_case}
use Rattle.vstatement_parse.proofs.cases.case_statement.Goals as goal

pub returns-clause-gives : goal.returns-clause-gives
returns-clause-gives g c =
    let words = words_of c.args.tokens.now in
    let left = ahead c.args.tokens.now in
    gives_case c.args.below c.args.kind words (left c.args.cursor.now) (left c.behind_word.new.cursor) c.behind_word.result c.behind_word.ensures.gives
