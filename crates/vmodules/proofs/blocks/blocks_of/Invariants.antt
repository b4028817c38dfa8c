use Rattle.std.proofs.Common.{◌≡◌, ◌++◌, drop, map}
use Rattle.std.specs.List.{flat_map}
use Rattle.vast.specs.NumberedTrees.{item_tree}
use Rattle.vexpr_parse.specs.Texts.{words_of}
use Rattle.vmodules.specs.Blocks.{blocks_by}
use Rattle.vmodules.specs.Inner.{words_told}
use Rattle.vmodules.proofs.blocks.blocks_of.Given as goal

abbrev pub invariant-loop-item : goal.invariant-loop-item
invariant-loop-item l =
    words_told (words_of l.tokens) l.list.items ++ flat_map blocks_by (map (item_tree (words_of l.tokens)) (drop l.item-index l.items))
    ≡ flat_map blocks_by (map (item_tree (words_of l.tokens)) l.items)
