use Rattle.std.proofs.Common.{◌≡◌, ◌≤◌, ◌-◌, take}
use Rattle.vmodel.specs.Choices.{order_of}
use Rattle.vmodel.specs.Holding.{with_held}
use Rattle.plain_steps.proofs.holding.hold_first.Given as goal

abbrev pub invariant-loop-i : goal.invariant-loop-i
invariant-loop-i l = (l.i ≤ l.count) × (l.all ≡ with_held (take l.i (order_of l.held l.queue)) l.initial.all)

abbrev pub decreases-loop-i : goal.decreases-loop-i
decreases-loop-i l = l.count - l.i
