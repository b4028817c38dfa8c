use Rattle.std.proofs.Common.{◌≡◌, codes, length, map, ◌++◌}
use Rattle.std.specs.List.{flat_map}
use Rattle.vast.specs.Leaves.{argument_leaves}
use Rattle.vexpr_parse.specs.Texts.{words_of}
use Rattle.vexpr_parse.specs.Answers.{ahead, leaves_ahead}
use Rattle.vast.specs.StatementTrees.{argument_tree}
use Rattle.vexpr_parse.specs.Readers.{past, is_front}
use Rattle.vstatement_parse.specs.Gives.{arguments_behind}
use Rattle.vgrammar.specs.Statements.{argument}
use Rattle.vgrammar.proofs.ManyTurns.{goes_on}
use Rattle.vstatement_parse.proofs.arguments.more_arguments.Given as goal

-- the arguments so far, and those that are read of the words that are left, are all that is read
abbrev pub invariant-list : goal.invariant-list
invariant-list l = record {
  read :
      goes_on (is_front (codes ",")) (λ list. past (codes ",") (argument l.below)) (map (argument_tree (words_of l.tokens)) l.list.items) (ahead l.tokens l.cursor)
      ≡ arguments_behind l.below (argument_tree (words_of l.tokens) l.fn.first) (ahead l.tokens l.fn.cursor);
  kept :
      argument_leaves l.fn.first ++ leaves_ahead l.tokens l.fn.cursor ≡ flat_map argument_leaves l.list.items ++ leaves_ahead l.tokens l.cursor;
}

abbrev pub decreases-list : goal.decreases-list
decreases-list l = length (ahead l.tokens l.cursor)
