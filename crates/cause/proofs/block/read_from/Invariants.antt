use Rattle.std.proofs.Common.{◌≡◌, ◌++◌, ◌-◌, drop, length}
use Rattle.cause.specs.Behind.{read_from}
use Rattle.cause.proofs.block.read_from.Given as goal

abbrev pub invariant-loop-k : goal.invariant-loop-k
invariant-loop-k l = l.things ++ read_from l.actions (length l.actions - l.k) (drop l.k l.places.items) ≡ read_from l.actions (length l.actions) l.body
