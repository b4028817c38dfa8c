use Rattle.std.proofs.Common.{◌≤◌, ◌-◌, Decides}
use Rattle.sched_core.specs.Rules.{IsRun}
use Rattle.sched_core.proofs.RunLemmas.{IsLeft}
use Rattle.vmodel.specs.Run.{rules_of, state_after}
use Rattle.vmachine.specs.Machines.{Stands}
use Rattle.report_check.specs.Claims.{IsClaimAt, IsSeenBefore}
use Rattle.report_check.proofs.race.is_seen.Given as goal

abbrev pub invariant-walk : goal.invariant-walk
invariant-walk l = record {
  within : l.n ≤ l.steps;
  left : IsLeft l.claim.log l.rest l.n;
  run : IsRun (rules_of l.machine) l.claim.log l.n;
  at : Stands l.machine l.state (state_after l.machine l.claim.log l.n);
  before : Decides l.found (IsSeenBefore l.machine (IsClaimAt l.claim) l.claim.log l.n);
}

abbrev pub decreases-walk : goal.decreases-walk
decreases-walk l = l.steps - l.n
