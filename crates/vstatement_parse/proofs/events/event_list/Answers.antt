use Rattle.vexpr_parse.specs.Texts.{words_of}
use Rattle.vexpr_parse.specs.Answers.{ahead}
use Rattle.vstatement_parse.proofs.StatementTurns.{gives_terms}
use Rattle.vstatement_parse.proofs.events.event_list.Goals as goal

pub returns-else-begins-clause-gives : goal.returns-else-begins-clause-gives
returns-else-begins-clause-gives c =
    let words = words_of c.args.tokens.now in
    let left = ahead c.args.tokens.now in
    gives_terms words (left c.args.cursor.now) (left c.terms.new.cursor) c.terms.result c.begins.result c.begins.ensures.front
    c.if-begins.false c.terms.ensures.gives
