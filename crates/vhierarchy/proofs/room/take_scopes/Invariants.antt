use Rattle.std.proofs.Common.{◌≡◌, ◌-◌, drop, length}
use Rattle.module_size.specs.Sizes.{size_of}
use Rattle.vhierarchy.proofs.room.take_scopes.Given as goal

abbrev pub invariant-loop-one : goal.invariant-loop-one
invariant-loop-one l = l.left - size_of (λ s. length s.path) (drop l.one-index l.scopes) ≡ l.initial.left - size_of (λ s. length s.path) l.scopes
