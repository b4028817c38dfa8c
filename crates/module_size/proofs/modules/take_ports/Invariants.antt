use Rattle.std.proofs.Common.{◌≡◌, ◌-◌, drop, map, List}
use Rattle.vwords.specs.Words.{Text}
use Rattle.vast.specs.NumberedTrees.{port_tree}
use Rattle.module_size.specs.Sizes.{port_size, size_of}
use Rattle.module_size.proofs.modules.take_ports.Given as goal

abbrev pub invariant-loop-one : goal.invariant-loop-one
invariant-loop-one l =
    (words : List Text) → l.left - size_of port_size (map (port_tree words) (drop l.one-index l.ports)) ≡ l.initial.left - size_of port_size (map (port_tree words) l.ports)
