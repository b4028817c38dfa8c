use Rattle.std.proofs.Common.{◌≡◌, codes, length, map, ◌++◌}
use Rattle.std.specs.List.{flat_map}
use Rattle.vast.specs.Leaves.{leaves_of}
use Rattle.vexpr_parse.specs.Texts.{words_of}
use Rattle.vexpr_parse.specs.Answers.{ahead, leaves_ahead}
use Rattle.vast.specs.ExpressionTrees.{tree_of}
use Rattle.vexpr_parse.specs.Readers.{past, is_front}
use Rattle.vstatement_parse.specs.Cases.{labels_behind}
use Rattle.vgrammar.specs.Statements.{value}
use Rattle.vgrammar.proofs.ManyTurns.{goes_on}
use Rattle.vstatement_parse.proofs.labels.more_labels.Given as goal

-- the labels so far, and those that are read of the words that are left, are all that is read
abbrev pub invariant-labels : goal.invariant-labels
invariant-labels l = record {
  read :
      goes_on (is_front (codes ",")) (λ list. past (codes ",") (value l.below)) (map (tree_of (words_of l.tokens)) l.labels.items) (ahead l.tokens l.cursor)
      ≡ labels_behind l.below (tree_of (words_of l.tokens) l.fn.first) (ahead l.tokens l.fn.cursor);
  kept :
      leaves_of l.fn.first ++ leaves_ahead l.tokens l.fn.cursor ≡ flat_map leaves_of l.labels.items ++ leaves_ahead l.tokens l.cursor;
}

abbrev pub decreases-labels : goal.decreases-labels
decreases-labels l = length (ahead l.tokens l.cursor)
