use Rattle.std.proofs.Common.{◌≡◌, ◌-◌, drop, map, List}
use Rattle.vwords.specs.Words.{Text}
use Rattle.vast.specs.NumberedTrees.{declared_tree}
use Rattle.module_size.specs.Sizes.{declared_size, size_of}
use Rattle.module_size.proofs.modules.take_declarations.Given as goal

abbrev pub invariant-loop-one : goal.invariant-loop-one
invariant-loop-one l =
    (words : List Text) → l.left - size_of declared_size (map (declared_tree words) (drop l.one-index l.list)) ≡ l.initial.left - size_of declared_size (map (declared_tree words) l.list)
