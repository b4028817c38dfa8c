use Rattle.std.proofs.Common.{◌≡◌, ◌-◌, drop, map, List}
use Rattle.vwords.specs.Words.{Text}
use Rattle.vast.specs.NumberedTrees.{head_parameter}
use Rattle.module_size.specs.Sizes.{head_size, size_of}
use Rattle.module_size.proofs.modules.take_heads.Given as goal

abbrev pub invariant-loop-one : goal.invariant-loop-one
invariant-loop-one l =
    (words : List Text) → l.left - size_of head_size (map (head_parameter words) (drop l.one-index l.heads)) ≡ l.initial.left - size_of head_size (map (head_parameter words) l.heads)
