use Rattle.vexpr_parse.specs.Texts.{words_of}
use Rattle.vexpr_parse.specs.Answers.{ahead}
use Rattle.vstatement_parse.proofs.CaseTurns.{labelled_got}
use Rattle.vstatement_parse.proofs.branches.labelled_branch.Goals as goal

pub returns-clause-gives : goal.returns-clause-gives
returns-clause-gives g c =
    let words = words_of c.args.tokens.now in
    let left = ahead c.args.tokens.now in
    labelled_got words c.args.below c.in_ok-labels.labels c.in_ok-body.body (left c.args.cursor.now) (left c.labels.new.cursor) (left c.read.new.arg2)
    c.in_ok-labels.ensures.gives (c.requires.reads _ _ _ c.in_ok-body.ensures)
