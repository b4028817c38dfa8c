use Rattle.std.proofs.Common.{◌≡◌, drop, map}
use Rattle.vast.specs.NumberedTrees.{item_tree}
use Rattle.vexpr_parse.specs.Texts.{words_of}
use Rattle.vmodules.specs.Ports.{direction_for}
use Rattle.vmodules.proofs.ports.direction_for.Given as goal

abbrev pub invariant-loop-item : goal.invariant-loop-item
invariant-loop-item l =
    direction_for (map (item_tree (words_of l.tokens)) (drop l.item-index l.items)) l.name ≡ direction_for (map (item_tree (words_of l.tokens)) l.items) l.name
