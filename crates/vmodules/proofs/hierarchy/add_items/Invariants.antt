use Rattle.std.proofs.Common.{◌++◌, drop, map}
use Rattle.std.specs.List.{flat_map}
use Rattle.vast.specs.NumberedTrees.{item_tree}
use Rattle.vexpr_parse.specs.Texts.{words_of}
use Rattle.vmodules.specs.Hierarchy.{instantiated_by}
use Rattle.vmodules.specs.Inner.{HoldSame}
use Rattle.vmodules.proofs.hierarchy.add_items.Given as goal

abbrev pub invariant-loop-item : goal.invariant-loop-item
invariant-loop-item l = HoldSame (l.into ++ flat_map instantiated_by (map (item_tree (words_of l.tokens)) (drop l.item-index l.items)))
    (l.initial.into ++ flat_map instantiated_by (map (item_tree (words_of l.tokens)) l.items))
