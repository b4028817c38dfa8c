use Rattle.std.proofs.Common.{◌≡◌, ◌+◌, ◌++◌, length}
use Rattle.vexpr_parse.specs.Texts.{words_of}
use Rattle.vexpr_parse.specs.Answers.{ahead, leaves_ahead, found_leaves, tree_in, IsMeasured}
use Rattle.vexpr_parse.proofs.Turning.{operator_turns}
use Rattle.vexpr_parse.proofs.operators.operators.Given as goal

-- what is read from the left side so far on is what is read from the first on
abbrev pub invariant-turns : goal.invariant-turns
invariant-turns g l = record {
  read :
      operator_turns l.below l.least (tree_in (words_of l.tokens) l.left) (ahead l.tokens l.cursor)
      ≡ operator_turns l.below l.least (tree_in (words_of l.tokens) l.fn.first) (ahead l.tokens l.fn.cursor);
  kept :
      found_leaves l.fn.first ++ leaves_ahead l.tokens l.fn.cursor ≡ found_leaves l.left ++ leaves_ahead l.tokens l.cursor;
  measured : IsMeasured (words_of l.tokens) (1 + l.below) l.left;
}

abbrev pub decreases-turns : goal.decreases-turns
decreases-turns g l = length (ahead l.tokens l.cursor)
