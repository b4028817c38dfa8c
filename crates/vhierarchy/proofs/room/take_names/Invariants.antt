use Rattle.std.proofs.Common.{◌≡◌, ◌-◌, drop}
use Rattle.module_size.specs.Sizes.{size_of}
use Rattle.vhierarchy.specs.Instances.{dotted_size}
use Rattle.vhierarchy.proofs.room.take_names.Given as goal

abbrev pub invariant-loop-place : goal.invariant-loop-place
invariant-loop-place l = l.left - size_of (dotted_size l.path) (drop l.place l.names) ≡ l.initial.left - size_of (dotted_size l.path) l.names
