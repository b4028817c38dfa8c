use Rattle.std.proofs.Common.{sym, ◌∙◌}
use Rattle.vexpr_parse.specs.Texts.{words_of}
use Rattle.vexpr_parse.specs.Answers.{ahead}
use Rattle.vstatement_parse.proofs.PrintTurns.{gives_nothing, gives_some}
use Rattle.vstatement_parse.proofs.arguments.argument.Goals as goal

pub returns-then-not-begins_argument-clause-gives : goal.returns-then-not-begins_argument-clause-gives
returns-then-not-begins_argument-clause-gives c =
    gives_nothing c.args.below (ahead c.args.tokens.now c.args.cursor.now) (sym c.begins_argument.ensures ∙ c.if-not-begins_argument.true)

pub returns-clause-gives : goal.returns-clause-gives
returns-clause-gives c =
    let words = words_of c.args.tokens.now in
    let left = ahead c.args.tokens.now in
    gives_some c.args.below (left c.args.cursor.now) words (left c.some_argument.new.cursor) c.some_argument.result
    (sym c.begins_argument.ensures ∙ c.if-not-begins_argument.false) c.some_argument.ensures.gives
