use Rattle.std.proofs.Common.{◌≡◌, not, codes, length, map, ◌++◌}
use Rattle.std.specs.List.{flat_map}
use Rattle.vast.specs.Leaves.{statement_leaves}
use Rattle.vexpr_parse.specs.Texts.{words_of}
use Rattle.vexpr_parse.specs.Answers.{ahead, leaves_ahead}
use Rattle.vast.specs.StatementTrees.{statement_tree}
use Rattle.vexpr_parse.specs.Readers.{is_front}
use Rattle.vstatement_parse.specs.Gives.{block_list}
use Rattle.vgrammar.specs.Statements.{statement}
use Rattle.vgrammar.proofs.ManyTurns.{goes_on}
use Rattle.vstatement_parse.proofs.blocks.list.Given as goal

-- the statements so far, and those that are read of the words that are left, are all that is read
abbrev pub invariant-list : goal.invariant-list
invariant-list g l = record {
  read :
      goes_on (λ next. not (is_front (codes "end") next)) (λ list. statement l.below) (map (statement_tree (words_of l.tokens)) l.list.items) (ahead l.tokens l.cursor)
      ≡ block_list l.below (ahead l.tokens l.fn.cursor);
  kept :
      leaves_ahead l.tokens l.fn.cursor ≡ flat_map statement_leaves l.list.items ++ leaves_ahead l.tokens l.cursor;
}

abbrev pub decreases-list : goal.decreases-list
decreases-list g l = length (ahead l.tokens l.cursor)
