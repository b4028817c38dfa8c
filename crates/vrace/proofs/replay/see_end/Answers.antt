use Rattle.std.proofs.Common.{ℕ, List, sym, subst}
use Rattle.basis.specs.Reasons.{Because}
use Rattle.sched_core.specs.Replay.{IsReplayReason}
use Rattle.vmodel.specs.Run.{rules_of}
use Rattle.vreport.specs.Dumps.{EndsAs}
use Rattle.vrace.specs.RunDumps.{IsRunFault}
use Rattle.vrace.proofs.DumpLemmas.{seeing_fault}
use Rattle.vrace.proofs.replay.see_end.Goals as goal

pub see_end-requires : goal.see_end-requires
see_end-requires c = record { here = c.in_ok-run.ensures.here c.args.steps }

pub returns-in-Ok-clause-ends : goal.returns-in-Ok-clause-ends
returns-in-Ok-clause-ends c =
    subst (λ (log : List (ℕ × ℕ)). EndsAs c.args.machine.now log c.args.steps c.in-Ok.end) c.in_ok-run.ensures.log c.in-Ok.ensures.ends

pub returns-clause-reason : goal.returns-clause-reason
returns-clause-reason c =
    let setting = c.args.machine.now in
    subst (IsRunFault setting c.args.log.now c.args.steps) (sym c.of_seeing.ensures)
    (seeing_fault setting c.args.log.now c.args.steps c.in-Err.fault
    (subst (λ (log : List (ℕ × ℕ)). Because (IsReplayReason (rules_of setting) log c.args.steps) c.in-Err.fault) c.in_ok-run.ensures.log c.in-Err.ensures.reason))
