use Rattle.vexpr_parse.specs.Texts.{words_of}
use Rattle.vexpr_parse.specs.Answers.{ahead}
use Rattle.vexpr_parse.proofs.Places.{found_result, stop_result}
use Rattle.vexpr_parse.proofs.levels.expression.Goals as goal

pub returns-clause-found : goal.returns-clause-found
returns-clause-found c =
    found_result (words_of c.args.tokens.now) c.args.levels (ahead c.args.tokens.now c.args.cursor.now)
    (ahead c.args.tokens.now c.of_rank.new.cursor) c.of_rank.result c.of_rank.ensures.finds

pub returns-clause-stop : goal.returns-clause-stop
returns-clause-stop c =
    stop_result (words_of c.args.tokens.now) c.args.levels (ahead c.args.tokens.now c.args.cursor.now)
    (ahead c.args.tokens.now c.of_rank.new.cursor) c.of_rank.result c.requires c.of_rank.ensures.finds
