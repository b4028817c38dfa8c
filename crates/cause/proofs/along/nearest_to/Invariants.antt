use Rattle.std.proofs.Common.{◌≤◌}
use Rattle.cause.specs.Checkpoints.{IsCheckpointOf}
use Rattle.cause.specs.Stands.{IsSeenSo}
use Rattle.cause.proofs.along.nearest_to.Given as goal

abbrev pub invariant-loop-step : goal.invariant-loop-step
invariant-loop-step l = record {
  so : IsSeenSo l.machine l.members l.to l.to l.rest l.step l.state l.seen;
  is : IsCheckpointOf l.machine l.members l.newest;
  before : l.newest.step ≤ l.step;
}
