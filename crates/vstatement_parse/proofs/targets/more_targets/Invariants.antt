use Rattle.std.proofs.Common.{◌≡◌, [], ◌∷◌, length, map, ◌++◌}
use Rattle.std.specs.List.{flat_map}
use Rattle.vast.specs.Leaves.{target_leaves}
use Rattle.vexpr_parse.specs.Texts.{words_of}
use Rattle.vexpr_parse.specs.Answers.{ahead, leaves_ahead}
use Rattle.vast.specs.StatementTrees.{target_tree}
use Rattle.vstatement_parse.specs.Gives.{targets_from}
use Rattle.vstatement_parse.proofs.targets.more_targets.Given as goal

-- the targets so far, and those that are read of the words that are left, are all that is read
abbrev pub invariant-targets : goal.invariant-targets
invariant-targets g l = record {
  read :
      targets_from l.below (map (target_tree (words_of l.tokens)) l.targets.items) (ahead l.tokens l.cursor) ≡ targets_from l.below (target_tree (words_of l.tokens) l.fn.first ∷ []) (ahead l.tokens l.fn.cursor);
  kept :
      target_leaves l.fn.first ++ leaves_ahead l.tokens l.fn.cursor ≡ flat_map target_leaves l.targets.items ++ leaves_ahead l.tokens l.cursor;
}

abbrev pub decreases-targets : goal.decreases-targets
decreases-targets g l = length (ahead l.tokens l.cursor)
