use Rattle.footprints.specs.Visits.{IsBegin}
use Rattle.cause.specs.Stands.{IsSeenSo}
use Rattle.cause.proofs.slot.before_step.Given as goal

abbrev pub invariant-loop-step : goal.invariant-loop-step
invariant-loop-step l = record {
  begin : IsBegin l.machine l.fn.members l.step l.begin;
  so : IsSeenSo l.machine l.fn.members l.from l.begin l.rest l.step l.state l.seen;
}
