use Rattle.vexpr_parse.specs.Texts.{words_of}
use Rattle.vexpr_parse.specs.Answers.{ahead}
use Rattle.vstatement_parse.proofs.CaseTurns.{gives_default, gives_labelled}
use Rattle.vstatement_parse.proofs.branches.read_branch.Goals as goal

pub returns-else-seen-clause-gives : goal.returns-else-seen-clause-gives
returns-else-seen-clause-gives g c =
    let words = words_of c.args.tokens.now in
    let left = ahead c.args.tokens.now in
    gives_default c.args.below (left c.args.cursor.now) words (left c.default_branch.new.cursor) c.default_branch.result
    c.begins.result c.args.seen c.begins.ensures.front c.if-begins.true c.if-seen.false c.default_branch.ensures.gives

pub returns-else-begins-clause-gives : goal.returns-else-begins-clause-gives
returns-else-begins-clause-gives g c =
    let words = words_of c.args.tokens.now in
    let left = ahead c.args.tokens.now in
    gives_labelled c.args.below (left c.args.cursor.now) words (left c.labelled_branch.new.cursor) c.labelled_branch.result
    c.begins.result c.args.seen c.begins.ensures.front c.if-begins.false c.labelled_branch.ensures.gives
