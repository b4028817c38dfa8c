use Rattle.std.proofs.Common.{◌≡◌, ◌-◌, drop, map, List}
use Rattle.vwords.specs.Words.{Text}
use Rattle.vast.specs.NumberedTrees.{net_assignment}
use Rattle.action_origins.specs.Lengths.{length_of_each, net_assignment_length}
use Rattle.action_origins.proofs.modules.past_each_net_assignment.Given as goal

abbrev pub invariant-loop-one : goal.invariant-loop-one
invariant-loop-one l =
    (words : List Text) → l.left - length_of_each net_assignment_length (map (net_assignment words) (drop l.one-index l.list)) ≡ l.initial.left - length_of_each net_assignment_length (map (net_assignment words) l.list)
