use Rattle.std.proofs.Common.{length, ◌≡◌, ◌++◌}
use Rattle.std.specs.List.{flat_map}
use Rattle.vast.specs.Leaves.{branch_leaves}
use Rattle.vexpr_parse.specs.Texts.{words_of}
use Rattle.vexpr_parse.specs.Answers.{ahead, leaves_ahead}
use Rattle.vast.specs.StatementTrees.{branch_tree}
use Rattle.vstatement_parse.specs.Cases.{later_branches}
use Rattle.vstatement_parse.proofs.CaseTurns.{IsSoFar}
use Rattle.vstatement_parse.proofs.branches.more_branches.Given as goal

abbrev pub invariant-branches : goal.invariant-branches
invariant-branches g l = record {
  read :
      IsSoFar (words_of l.tokens) l.below l.branches.items l.seen (ahead l.tokens l.cursor) (later_branches l.below (branch_tree (words_of l.tokens) l.fn.first) (ahead l.tokens l.fn.cursor));
  kept :
      branch_leaves l.fn.first ++ leaves_ahead l.tokens l.fn.cursor ≡ flat_map branch_leaves l.branches.items ++ leaves_ahead l.tokens l.cursor;
}

abbrev pub decreases-branches : goal.decreases-branches
decreases-branches g l = length (ahead l.tokens l.cursor)
