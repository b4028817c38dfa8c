use Rattle.std.proofs.Common.{◌≡◌, ◌-◌, drop, map, List}
use Rattle.vwords.specs.Words.{Text}
use Rattle.vast.specs.NumberedTrees.{net_assignment}
use Rattle.module_size.specs.Sizes.{net_assignment_size, size_of}
use Rattle.module_size.proofs.modules.take_net_assignments.Given as goal

abbrev pub invariant-loop-one : goal.invariant-loop-one
invariant-loop-one l =
    (words : List Text) → l.left - size_of net_assignment_size (map (net_assignment words) (drop l.one-index l.list)) ≡ l.initial.left - size_of net_assignment_size (map (net_assignment words) l.list)
