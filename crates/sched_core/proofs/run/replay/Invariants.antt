use Rattle.std.proofs.Common.{◌≡◌, ◌≤◌, ◌-◌, true}
use Rattle.sched_core.specs.Rules.{stands, IsRun}
use Rattle.sched_core.proofs.RunLemmas.{IsLeft}
use Rattle.sched_core.proofs.run.replay.Given as goal

abbrev pub invariant-loop-rest : goal.invariant-loop-rest
invariant-loop-rest g l = record {
  within : l.n ≤ l.steps;
  left : IsLeft l.log l.rest l.n;
  run : IsRun (g.P.Space.rules l.space) l.log l.n;
  at : (g.P.Space.rules l.space).same l.state (stands (g.P.Space.rules l.space) l.log l.n) ≡ true;
}

abbrev pub decreases-loop-rest : goal.decreases-loop-rest
decreases-loop-rest g l = l.steps - l.n
