use Rattle.std.proofs.Common.{◌≡◌, ◌≤◌, drop, length}
use Rattle.vmodel.specs.Run.{busy_from}
use Rattle.plain_steps.proofs.open.busy.Given as goal

abbrev pub invariant-loop-i : goal.invariant-loop-i
invariant-loop-i l = (l.i ≤ length l.begins) × (l.set ≡ busy_from l.i (drop l.i l.begins))

abbrev pub decreases-loop-i : goal.decreases-loop-i
decreases-loop-i l = l.i
