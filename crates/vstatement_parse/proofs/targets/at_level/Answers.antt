use Rattle.vast.specs.TokenTexts.{token_text}
use Rattle.vexpr_parse.specs.Texts.{words_of}
use Rattle.vexpr_parse.specs.Answers.{ahead}
use Rattle.vstatement_parse.proofs.TargetTurns.{gives_named}
use Rattle.vstatement_parse.proofs.targets.at_level.Goals as goal

pub returns-then-is_name-clause-gives : goal.returns-then-is_name-clause-gives
returns-then-is_name-clause-gives g c =
    let words = words_of c.args.tokens.now in
    let left = ahead c.args.tokens.now in
    let word = c.in-Some.word in
    gives_named words c.args.below (left c.args.cursor.now) (left c.pass.new.self) (left c.named_target.new.cursor) word.text.now
    (token_text words word.token) c.is_name.result c.named_target.result c.in-Some.ensures.word.0 c.in-Some.ensures.word.1
    c.is_name.ensures c.if-is_name.true c.pass.ensures.left c.named_target.ensures.gives
