use Rattle.vexpr_parse.specs.Texts.{words_of}
use Rattle.vexpr_parse.specs.Answers.{ahead}
use Rattle.vstatement_parse.proofs.LevelTurns.{gives_up}
use Rattle.vstatement_parse.proofs.statements.+statements.Goals as goal

pub returns-clause-gives : goal.returns-clause-gives
returns-clause-gives t c =
    let words = words_of c.args.tokens.now in
    let left = ahead c.args.tokens.now in
    gives_up words c.args.levels (left c.args.cursor.now) (left c.at_level.new.cursor) c.at_level.result c.if-levels-eq0.false c.at_level.ensures.gives
