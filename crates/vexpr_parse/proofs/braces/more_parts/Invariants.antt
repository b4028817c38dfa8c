use Rattle.std.proofs.Common.{◌≡◌, ◌≤◌, [], ◌∷◌, ◌++◌, length, map}
use Rattle.vast.specs.Expressions.{greatest_depth}
use Rattle.std.specs.List.{flat_map}
use Rattle.vast.specs.Leaves.{leaves_of}
use Rattle.vast.specs.ExpressionTrees.{tree_of, trees_of}
use Rattle.vexpr_parse.specs.Texts.{words_of}
use Rattle.vexpr_parse.specs.Answers.{ahead, leaves_ahead, found_leaves, tree_in}
use Rattle.vexpr_parse.proofs.Turning.{part_turns}
use Rattle.vexpr_parse.proofs.braces.more_parts.Given as goal

-- the parts so far, and those that are read of the words that are left, are all that is read
abbrev pub invariant-parts : goal.invariant-parts
invariant-parts g l = record {
  read :
      part_turns l.below (map (tree_of (words_of l.tokens)) l.trees.items) (ahead l.tokens l.cursor)
      ≡ part_turns l.below (tree_in (words_of l.tokens) l.fn.first ∷ []) (ahead l.tokens l.fn.cursor);
  kept :
      found_leaves l.fn.first ++ leaves_ahead l.tokens l.fn.cursor ≡ flat_map leaves_of l.trees.items ++ leaves_ahead l.tokens l.cursor;
  deep : l.depth ≡ greatest_depth (trees_of (words_of l.tokens) l.trees.items);
  within : l.depth ≤ l.below;
}

abbrev pub decreases-parts : goal.decreases-parts
decreases-parts g l = length (ahead l.tokens l.cursor)
