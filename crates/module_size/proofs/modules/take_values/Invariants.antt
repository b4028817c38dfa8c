use Rattle.std.proofs.Common.{◌≡◌, ◌-◌, drop, map, List}
use Rattle.vwords.specs.Words.{Text}
use Rattle.vast.specs.NumberedTrees.{tree_of}
use Rattle.module_size.specs.Sizes.{expression_size, size_of}
use Rattle.module_size.proofs.modules.take_values.Given as goal

abbrev pub invariant-loop-one : goal.invariant-loop-one
invariant-loop-one l =
    (words : List Text) → l.left - size_of expression_size (map (tree_of words) (drop l.one-index l.values)) ≡ l.initial.left - size_of expression_size (map (tree_of words) l.values)
