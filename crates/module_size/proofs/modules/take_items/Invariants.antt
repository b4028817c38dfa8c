use Rattle.std.proofs.Common.{◌≡◌, ◌-◌, drop, map}
use Rattle.vast.specs.NumberedTrees.{item_tree}
use Rattle.vexpr_parse.specs.Texts.{words_of}
use Rattle.module_size.specs.Sizes.{item_size, size_of}
use Rattle.module_size.proofs.modules.take_items.Given as goal

abbrev pub invariant-loop-one : goal.invariant-loop-one
invariant-loop-one l =
    l.left - size_of (item_size l.path) (map (item_tree (words_of l.tokens)) (drop l.one-index l.items)) ≡ l.initial.left - size_of (item_size l.path) (map (item_tree (words_of l.tokens)) l.items)
