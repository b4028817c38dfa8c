use Rattle.std.proofs.Common.{◌≡◌, ◌++◌, drop, map}
use Rattle.vast.specs.NumberedTrees.{item_tree}
use Rattle.vexpr_parse.specs.Texts.{words_of}
use Rattle.action_origins.specs.Origins.{items_origins}
use Rattle.action_origins.proofs.units.put_items.Given as goal

abbrev pub invariant-loop-one : goal.invariant-loop-one
invariant-loop-one l =
    l.into.items ++ items_origins (words_of l.tokens) l.left (map (item_tree (words_of l.tokens)) (drop l.one-index l.items))
    ≡ l.initial.into.items ++ items_origins (words_of l.tokens) l.initial.left (map (item_tree (words_of l.tokens)) l.items)
