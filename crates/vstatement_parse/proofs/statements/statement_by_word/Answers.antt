use Rattle.vexpr_parse.specs.Texts.{words_of}
use Rattle.vexpr_parse.specs.Answers.{ahead}
use Rattle.vstatement_parse.proofs.LevelTurns.{gives_begun}
use Rattle.vstatement_parse.proofs.statements.statement_by_word.Goals as goal

pub returns-clause-gives : goal.returns-clause-gives
returns-clause-gives g c =
    let words = words_of c.args.tokens.now in
    let left = ahead c.args.tokens.now in
    gives_begun words c.args.below c.args.start (left c.args.cursor.now) (left c.enter.new.self) (left c.behind_word.new.cursor) c.behind_word.result
    c.levels_of.result c.requires.word c.levels_of.ensures c.in_ok-enter.ensures.enters.0 c.in_ok-enter.ensures.enters.1 c.behind_word.ensures.gives
