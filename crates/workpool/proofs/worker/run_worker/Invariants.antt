use Rattle.workpool.specs.Inner.Joined.{IsReady}
use Rattle.workpool.specs.Inner.Works.{IsSamePlace}
use Rattle.workpool.proofs.worker.run_worker.Given as goal

abbrev pub invariant-loop : goal.invariant-loop
invariant-loop g l = record {
  ready : IsReady (g.P.Space.rules l.space) l.limits l.tally l.work;
  same : IsSamePlace l.fn.work l.work;
}
