use Rattle.std.proofs.Common.{◌+◌, refl}
use Rattle.vast.specs.Expressions.{name}
use Rattle.vast.specs.TokenTexts.{token_text}
use Rattle.vexpr_parse.specs.Texts.{words_of}
use Rattle.vexpr_parse.specs.Answers.{ahead, tree_in}
use Rattle.vexpr_parse.proofs.Turning.{named_alone, measured, one_level}
use Rattle.vexpr_parse.proofs.primary.after_name.Goals as goal

pub returns-else-begins-clause-finds : goal.returns-else-begins-clause-finds
returns-else-begins-clause-finds g c =
    let words = words_of c.args.tokens.now in
    let letters = token_text words c.args.name in
    let made = c.leaf.ensures.made words in (
      named_alone c.args.below letters (ahead c.args.tokens.now c.args.cursor.now) (tree_in words c.leaf.result)
          c.begins.result c.begins.ensures.front c.if-begins.false made.0,
      measured words (name letters) 1 (1 + c.args.below) c.leaf.result made refl (one_level c.args.below),
    )
