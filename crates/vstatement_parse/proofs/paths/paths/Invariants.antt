use Rattle.std.proofs.Common.{◌≡◌, codes, length, map, ◌++◌}
use Rattle.std.specs.List.{flat_map}
use Rattle.vast.specs.Leaves.{path_leaves}
use Rattle.vexpr_parse.specs.Texts.{words_of}
use Rattle.vexpr_parse.specs.Answers.{ahead, leaves_ahead}
use Rattle.vast.specs.StatementTrees.{path_tree}
use Rattle.vexpr_parse.specs.Readers.{past, is_front}
use Rattle.vstatement_parse.specs.Gives.{paths_at}
use Rattle.vgrammar.specs.Statements.{path}
use Rattle.vgrammar.proofs.ManyTurns.{goes_on}
use Rattle.vstatement_parse.proofs.paths.paths.Given as goal

-- the paths so far, and those that are read of the words that are left, are all that is read
abbrev pub invariant-paths : goal.invariant-paths
invariant-paths l = record {
  read :
      goes_on (is_front (codes ",")) (λ list. past (codes ",") path) (map (path_tree (words_of l.tokens)) l.paths.items) (ahead l.tokens l.cursor) ≡ paths_at (ahead l.tokens l.fn.cursor);
  kept :
      leaves_ahead l.tokens l.fn.cursor ≡ flat_map path_leaves l.paths.items ++ leaves_ahead l.tokens l.cursor;
}

abbrev pub decreases-paths : goal.decreases-paths
decreases-paths l = length (ahead l.tokens l.cursor)
