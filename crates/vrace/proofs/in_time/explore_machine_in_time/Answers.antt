use Rattle.std.proofs.Common.{◌≡◌, ◌∙◌, ap, refl, inl, sym}
use Rattle.std.proofs.lemmas.Result.{IfOk-weaker}
use Rattle.explore.specs.declared.ranked_findings.RankedFindings.{RankedFindings}
use Rattle.vrace.specs.ExploresInTime.{ReportsAsTold, ReportsInTime, SaysIfStopped}
use Rattle.vrace.proofs.ExploreLemmas.{never_long}
use Rattle.vrace.proofs.in_time.explore_machine_in_time.Goals as goal

pub returns-in-Ok-clause-ok : goal.returns-in-Ok-clause-ok
returns-in-Ok-clause-ok g c =
    let lacked = g.B.Budget.lacks c.report_in_time.new.budget in
    IfOk-weaker c.write_timed.result (λ timed. ReportsAsTold g.W.Write.contents c.args.machine.now c.args.limits.now c.in-Ok.told timed c.args.writer.now c.write_timed.new.writer)
    (λ timed. ReportsInTime g.W.Write.contents c.args.machine.now c.args.limits.now lacked timed c.args.writer.now c.write_timed.new.writer)
    (λ timed told. told lacked c.in-Ok.ensures.outcome) c.write_timed.ensures.ok

pub returns-in-Err-clause-err : goal.returns-in-Err-clause-err
returns-in-Err-clause-err g c = inl (c.of_search.ensures.memory, refl)

pub of_search-requires : goal.of_search-requires
of_search-requires g c = record { short = never_long c.args.machine.now c.args.limits.now c.in-Err.fault c.requires.short c.in-Err.ensures.long }

pub returns-in-Ok-clause-stopped : goal.returns-in-Ok-clause-stopped
returns-in-Ok-clause-stopped g c =
    IfOk-weaker c.write_timed.result (λ timed. timed.search ≡ c.in-Ok.told.search) (SaysIfStopped (g.B.Watcher.stopped c.report_in_time.new.budget))
    (λ timed same stopped. c.in-Ok.ensures.stopped (sym (ap (λ (f : RankedFindings). f.status) same) ∙ stopped)) c.write_timed.ensures.search
