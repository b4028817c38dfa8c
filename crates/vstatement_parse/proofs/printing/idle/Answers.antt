use Rattle.vexpr_parse.specs.Texts.{words_of}
use Rattle.vexpr_parse.specs.Answers.{ahead}
use Rattle.vstatement_parse.proofs.PrintTurns.{gives_idle}
use Rattle.vstatement_parse.proofs.printing.idle.Goals as goal

pub returns-clause-gives : goal.returns-clause-gives
returns-clause-gives c =
    let words = words_of c.args.tokens.now in
    let left = ahead c.args.tokens.now in
    gives_idle c.args.kind c.args.below (left c.args.cursor.now) words (left c.idle_task.new.cursor) c.idle_task.result c.idle_task.ensures.gives
