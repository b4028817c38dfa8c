use Rattle.std.proofs.Common.{◌≡◌, ◌++◌, drop}
use Rattle.vexpr_parse.specs.Texts.{words_of}
use Rattle.std.proofs.Common.{map}
use Rattle.std.specs.List.{flat_map}
use Rattle.vast.specs.NumberedTrees.{item_tree}
use Rattle.vmodules.specs.Blocks.{named_by}
use Rattle.vmodules.specs.Inner.{words_told}
use Rattle.vmodules.proofs.blocks.add_items.Given as goal

abbrev pub invariant-loop-item : goal.invariant-loop-item
invariant-loop-item l =
    words_told (words_of l.tokens) l.into.items ++ flat_map named_by (map (item_tree (words_of l.tokens)) (drop l.item-index l.items))
    ≡ words_told (words_of l.tokens) l.initial.into.items ++ flat_map named_by (map (item_tree (words_of l.tokens)) l.items)
