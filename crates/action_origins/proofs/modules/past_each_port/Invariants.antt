use Rattle.std.proofs.Common.{◌≡◌, ◌-◌, drop, map, List}
use Rattle.vwords.specs.Words.{Text}
use Rattle.vast.specs.NumberedTrees.{port_tree}
use Rattle.action_origins.specs.Lengths.{length_of_each, port_length}
use Rattle.action_origins.proofs.modules.past_each_port.Given as goal

abbrev pub invariant-loop-one : goal.invariant-loop-one
invariant-loop-one l =
    (words : List Text) → l.left - length_of_each port_length (map (port_tree words) (drop l.one-index l.ports)) ≡ l.initial.left - length_of_each port_length (map (port_tree words) l.ports)
