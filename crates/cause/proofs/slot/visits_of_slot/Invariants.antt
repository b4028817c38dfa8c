use Rattle.std.proofs.Common.{◌≤◌}
use Rattle.cause.specs.Stands.{IsSeenSo}
use Rattle.cause.proofs.slot.visits_of_slot.Given as goal

abbrev pub invariant-loop-step : goal.invariant-loop-step
invariant-loop-step l = record {
  after : l.from ≤ l.step;
  so : IsSeenSo l.machine l.fn.members l.steps l.from l.rest l.step l.state l.seen;
}
