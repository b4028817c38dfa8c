use Rattle.vexpr_parse.specs.Texts.{words_of}
use Rattle.vexpr_parse.specs.Answers.{ahead}
use Rattle.vstatement_parse.proofs.StatementTurns.{gives_enclosed}
use Rattle.vstatement_parse.proofs.events.control.Goals as goal

pub returns-in_ok-symbol-clause-gives : goal.returns-in_ok-symbol-clause-gives
returns-in_ok-symbol-clause-gives c =
    let words = words_of c.args.tokens.now in
    let left = ahead c.args.tokens.now in
    gives_enclosed words (left c.args.cursor.now) (left c.symbol.new.self) (left c.event_list.new.cursor) c.event_list.result
    c.begins_name.result c.begins_name.ensures c.if-begins_name.false c.in_ok-symbol.ensures.passes c.event_list.ensures.gives
