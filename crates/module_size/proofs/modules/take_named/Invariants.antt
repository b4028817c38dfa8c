use Rattle.std.proofs.Common.{◌≡◌, ◌-◌, drop, map, List}
use Rattle.vwords.specs.Words.{Text}
use Rattle.vast.specs.NumberedTrees.{connection_tree}
use Rattle.module_size.specs.Sizes.{connection_size, size_of}
use Rattle.module_size.proofs.modules.take_named.Given as goal

abbrev pub invariant-loop-one : goal.invariant-loop-one
invariant-loop-one l =
    (words : List Text) → l.left - size_of connection_size (map (connection_tree words) (drop l.one-index l.list)) ≡ l.initial.left - size_of connection_size (map (connection_tree words) l.list)
