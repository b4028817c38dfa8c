use Rattle.std.proofs.Common.{◌≡◌, ◌-◌}
use Rattle.vmodel.specs.Run.{items_after}
use Rattle.vmachine.specs.Inner.{IsAt}
use Rattle.vmachine.proofs.machine.Machine.history.Given as goal

abbrev pub invariant-walk : goal.invariant-walk
invariant-walk l = IsAt l.self l.log l.rest l.steps l.n l.state × (l.items.items ≡ items_after l.self l.log l.n)

abbrev pub decreases-walk : goal.decreases-walk
decreases-walk l = l.steps - l.n
