use Rattle.vexpr_parse.specs.Texts.{words_of}
use Rattle.vexpr_parse.specs.Answers.{ahead}
use Rattle.vexpr_parse.proofs.Turning.{none_at_zero, finds_up}
use Rattle.vexpr_parse.proofs.levels.+levels.Goals as goal

pub returns-then-levels-eq0-clause-finds : goal.returns-then-levels-eq0-clause-finds
returns-then-levels-eq0-clause-finds t c = none_at_zero c.args.levels c.args.least (ahead c.args.tokens.now c.args.cursor.now) c.if-levels-eq0.true

pub returns-clause-finds : goal.returns-clause-finds
returns-clause-finds t c =
    finds_up (words_of c.args.tokens.now) c.args.levels c.args.least (ahead c.args.tokens.now c.args.cursor.now) (ahead c.args.tokens.now c.at_level.new.cursor) c.at_level.result c.if-levels-eq0.false c.at_level.ensures.finds
