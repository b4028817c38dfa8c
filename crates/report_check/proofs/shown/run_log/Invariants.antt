use Rattle.std.proofs.Common.{◌≤◌, ◌-◌}
use Rattle.std.specs.List.{All}
use Rattle.sched_core.specs.Rules.{IsRun}
use Rattle.sched_core.proofs.RunLemmas.{IsLeft}
use Rattle.vmodel.specs.Run.{rules_of, state_after}
use Rattle.vmachine.specs.Machines.{Stands}
use Rattle.report_check.specs.Claims.{IsTrueAt}
use Rattle.report_check.proofs.shown.run_log.Given as goal

abbrev pub invariant-walk : goal.invariant-walk
invariant-walk l = record {
  within : l.n ≤ l.report.steps;
  left : IsLeft l.log l.rest l.n;
  run : IsRun (rules_of l.machine) l.log l.n;
  at : Stands l.machine l.state (state_after l.machine l.log l.n);
  shown : All (IsTrueAt l.machine l.report) l.shown.items;
}

abbrev pub decreases-walk : goal.decreases-walk
decreases-walk l = l.report.steps - l.n
