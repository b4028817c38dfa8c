use Rattle.std.proofs.Common.{◌≡◌, ◌-◌, drop, length}
use Rattle.module_size.specs.Sizes.{size_of}
use Rattle.vhierarchy.proofs.room.take_variables.Given as goal

abbrev pub invariant-loop-one : goal.invariant-loop-one
invariant-loop-one l = l.left - size_of (λ v. length v.name) (drop l.one-index l.variables) ≡ l.initial.left - size_of (λ v. length v.name) l.variables
