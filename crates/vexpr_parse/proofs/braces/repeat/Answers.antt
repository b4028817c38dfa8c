use Rattle.std.proofs.Common.{◌+◌, max}
use Rattle.vast.specs.Expressions.{replication, depth, greatest_depth}
use Rattle.vast.specs.ExpressionTrees.{trees_of}
use Rattle.vexpr_parse.specs.Texts.{words_of}
use Rattle.vexpr_parse.specs.Answers.{ahead, tree_in}
use Rattle.vexpr_parse.proofs.Turning.{repeated_so, measured, larger_level, both_deep}
use Rattle.vexpr_parse.proofs.braces.repeat.Goals as goal

pub returns-clause-finds : goal.returns-clause-finds
returns-clause-finds g c =
    let words = words_of c.args.tokens.now in
    let left = ahead c.args.tokens.now in
    let parts = c.in_ok-parts.parts in
    let trees = trees_of words parts.trees.items in
    let first = c.requires.reads _ _ 0 _ c.in_ok-first.ensures in
    let found = c.in_ok-parts.ensures.finds in
    let count = c.args.count in (
      repeated_so words c.args.below (tree_in words count) (tree_in words c.in_ok-first.first) (tree_in words c.in_ok-replication_of.field-0) parts.trees.items
          (left c.args.cursor.now) (left c.symbol.new.self) (left c.read.new.arg2) (left c.more_parts.new.cursor) (left c.symbol-2.new.self) (left c.symbol-3.new.self)
          c.in_ok-symbol.ensures.passes first.0 found.0 c.in_ok-symbol-2.ensures.passes c.in_ok-symbol-3.ensures.passes (c.in_ok-replication_of.ensures.made words).0,
      measured words (replication (tree_in words count) trees) (1 + max count.depth parts.depth) (1 + c.args.below) c.in_ok-replication_of.field-0
          (c.in_ok-replication_of.ensures.made words)
          (both_deep count.depth parts.depth (depth (tree_in words count)) (greatest_depth trees) c.requires.count.0 found.1.0)
          (larger_level count.depth parts.depth c.args.below c.requires.count.1 found.1.1),
    )
