use Rattle.std.proofs.Common.{◌≡◌, [], ◌++◌, length, map}
use Rattle.std.specs.List.{flat_map}
use Rattle.vast.specs.Leaves.{item_leaves}
use Rattle.vast.specs.ModuleTrees.{item_tree}
use Rattle.vexpr_parse.specs.Answers.{ahead, leaves_ahead}
use Rattle.vexpr_parse.specs.Texts.{words_of}
use Rattle.vparse.specs.ModuleGives.{items_from}
use Rattle.vparse.proofs.module_trees.all_items.Given as goal

-- the items so far, and those that are read of the words that are left, are all that is read; they keep the tokens that were passed
abbrev pub invariant-items : goal.invariant-items
invariant-items g l = record {
  read :
      items_from (map (item_tree (words_of l.tokens)) l.items.items) (ahead l.tokens l.cursor) ≡ items_from [] (ahead l.tokens l.fn.cursor);
  kept : leaves_ahead l.tokens l.fn.cursor ≡ flat_map item_leaves l.items.items ++ leaves_ahead l.tokens l.cursor;
}

abbrev pub decreases-items : goal.decreases-items
decreases-items g l = length (ahead l.tokens l.cursor)
