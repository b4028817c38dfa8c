use Rattle.std.proofs.Common.{◌≡◌, ◌-◌, drop, map, List, option_map}
use Rattle.vwords.specs.Words.{Text}
use Rattle.vast.specs.NumberedTrees.{connections_tree, instance_tree}
use Rattle.module_size.specs.Sizes.{connections_size, instance_size, size_if, size_of}
use Rattle.module_size.proofs.modules.take_instances.Given as goal

abbrev pub invariant-loop-one : goal.invariant-loop-one
invariant-loop-one l =
    (words : List Text) → l.left - size_of (instance_size (size_if connections_size (option_map (connections_tree words) l.overrides))) (map (instance_tree words) (drop l.one-index l.list)) ≡ l.initial.left - size_of (instance_size (size_if connections_size (option_map (connections_tree words) l.overrides))) (map (instance_tree words) l.list)
