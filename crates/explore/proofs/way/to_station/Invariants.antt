use Rattle.std.proofs.Common.{◌≤◌, ◌-◌}
use Rattle.explore.proofs.WayLemmas.{OnWay}
use Rattle.explore.proofs.way.to_station.Given as goal

abbrev pub invariant-loop-reached : goal.invariant-loop-reached
invariant-loop-reached g l = record {
  high : l.n ≤ l.limits.steps;
  way : OnWay (g.P.Space.rules l.space) l.initial.state l.state l.taken l.n l.checkpoints.items;
}

abbrev pub decreases-loop-reached : goal.decreases-loop-reached
decreases-loop-reached g l = l.limits.steps - l.n
