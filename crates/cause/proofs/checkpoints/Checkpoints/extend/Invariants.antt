use Rattle.std.proofs.Common.{◌≡◌, []}
use Rattle.cause.specs.Stands.{IsSeenSo}
use Rattle.cause.proofs.checkpoints.Checkpoints.extend.Given as goal

abbrev pub invariant-loop-step : goal.invariant-loop-step
invariant-loop-step l = record {
  same : l.self ≡ l.fn.self;
  there : IsSeenSo l.fn.self [] l.to l.to [] l.step l.state l.seen;
}
