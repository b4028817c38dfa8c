use Rattle.std.proofs.Common.{◌-◌}
use Rattle.vmodel.specs.Run.{state_after}
use Rattle.vmachine.specs.Inner.{IsAt}
use Rattle.vmachine.specs.Machines.{Stands}
use Rattle.vmachine.proofs.machine.Machine.see_end.Given as goal

abbrev pub invariant-walk : goal.invariant-walk
invariant-walk l =
    IsAt l.self l.run.log.now l.rest l.steps l.n (state_after l.self l.run.log.now l.n) × Stands l.self l.state (state_after l.self l.run.log.now l.n)

abbrev pub decreases-walk : goal.decreases-walk
decreases-walk l = l.steps - l.n
