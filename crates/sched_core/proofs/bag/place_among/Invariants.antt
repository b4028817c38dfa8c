use Rattle.std.proofs.Common.{◌≤◌, ◌-◌, length}
use Rattle.sched_core.specs.Inner.Bags.{IsBehind, IsBefore}
use Rattle.sched_core.proofs.bag.place_among.Given as goal

abbrev pub invariant-loop-low : goal.invariant-loop-low
invariant-loop-low l = (l.low ≤ l.high) × (l.high ≤ length l.lines) × IsBehind l.line l.lines l.low × IsBefore l.line l.lines l.high

abbrev pub decreases-loop-low : goal.decreases-loop-low
decreases-loop-low l = l.high - l.low
