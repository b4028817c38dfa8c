use Rattle.std.proofs.Common.{◌+◌, max, arith}
use Rattle.vast.specs.Expressions.{combine, depth}
use Rattle.vexpr_parse.specs.Texts.{words_of}
use Rattle.vexpr_parse.specs.Answers.{ahead, leaves_ahead, leaf_here, found_leaves, tree_in}
use Rattle.vexpr_parse.proofs.Turning.{turn_so, low_enough, measured, larger_level, both_deep, le_so}
use Rattle.vexpr_parse.proofs.Kept.{kept_both}
use Rattle.vexpr_parse.proofs.LeafWords.{operator_leaf}
use Rattle.vexpr_parse.proofs.operators.turn.Goals as goal

pub returns-clause-finds : goal.returns-clause-finds
returns-clause-finds g c =
    let words = words_of c.args.tokens.now in
    let behind = ahead c.args.tokens.now in
    let is_made = c.in_ok-combination_of.ensures.made words in
    let found = c.requires.reads _ _ _ _ c.in_ok-right.ensures in
    let left = c.args.left in
    let right = c.in_ok-right.right in
    let made = c.in_ok-combination_of.field-0 in (
      turn_so c.args.below c.args.least _ (tree_in words left) (tree_in words right) (tree_in words made) (behind c.args.cursor.now) (behind c.enter.new.self)
          (behind c.read.new.arg2) c.args.operator c.requires.here
          (low_enough left.depth (depth (tree_in words left)) c.args.below c.requires.left.0 c.in_ok-enter.ensures.enters.1)
          c.in_ok-enter.ensures.enters.0 (omega (arith, c.rank.ensures.value)) found.0 is_made.0,
      measured words (combine c.args.operator (tree_in words left) (tree_in words right)) (1 + max left.depth right.depth) (1 + c.args.below) made
          is_made
          (both_deep left.depth right.depth (depth (tree_in words left)) (depth (tree_in words right)) c.requires.left.0 found.1.0)
          (larger_level left.depth right.depth c.args.below (le_so left.depth c.args.below c.in_ok-enter.ensures.enters.1) found.1.1),
    )

pub returns-clause-kept : goal.returns-clause-kept
returns-clause-kept g c =
    let leaves = leaves_ahead c.args.tokens.now in
    kept_both (found_leaves c.args.left) (found_leaves c.in_ok-right.right) (leaves c.args.cursor.now) (leaf_here c.args.tokens.now c.args.cursor.now)
    (leaves c.enter.new.self) (leaves c.read.new.arg2) (found_leaves c.in_ok-combination_of.field-0)
    (operator_leaf c.args.tokens.now c.args.cursor.now c.args.least c.args.operator c.requires.here)
    c.in_ok-enter.ensures.kept (c.requires.keeps _ _ _ _ c.in_ok-right.ensures) c.in_ok-combination_of.ensures.kept
