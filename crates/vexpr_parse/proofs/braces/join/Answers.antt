use Rattle.std.proofs.Common.{◌+◌, ap}
use Rattle.vast.specs.Expressions.{concatenation}
use Rattle.vast.specs.ExpressionTrees.{trees_of}
use Rattle.vexpr_parse.specs.Texts.{words_of}
use Rattle.vexpr_parse.specs.Answers.{ahead, tree_in}
use Rattle.vexpr_parse.proofs.Turning.{joined_so, measured, one_more_level}
use Rattle.vexpr_parse.proofs.braces.join.Goals as goal

pub returns-clause-finds : goal.returns-clause-finds
returns-clause-finds g c =
    let words = words_of c.args.tokens.now in
    let left = ahead c.args.tokens.now in
    let parts = c.in_ok-parts.parts in
    let found = c.in_ok-parts.ensures.finds in (
      joined_so words c.args.below (tree_in words c.args.first) (tree_in words c.concatenation_of.result) parts.trees.items (left c.args.cursor.now)
          (left c.more_parts.new.cursor) (left c.symbol.new.self) found.0 c.in_ok-symbol.ensures.passes (c.concatenation_of.ensures.made words).0,
      measured words (concatenation (trees_of words parts.trees.items)) (1 + parts.depth) (1 + c.args.below) c.concatenation_of.result (c.concatenation_of.ensures.made words)
          (ap (λ n. 1 + n) found.1.0) (one_more_level parts.depth c.args.below found.1.1),
    )
