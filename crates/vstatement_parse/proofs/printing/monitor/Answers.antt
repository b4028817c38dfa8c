use Rattle.vexpr_parse.specs.Texts.{words_of}
use Rattle.vexpr_parse.specs.Answers.{ahead}
use Rattle.vstatement_parse.proofs.PrintTurns.{gives_monitor}
use Rattle.vstatement_parse.proofs.printing.monitor.Goals as goal

pub returns-clause-gives : goal.returns-clause-gives
returns-clause-gives c =
    let words = words_of c.args.tokens.now in
    let left = ahead c.args.tokens.now in
    gives_monitor c.args.kind words c.args.below (left c.args.cursor.now) (left c.monitor_task.new.cursor) c.monitor_task.result c.monitor_task.ensures.gives
