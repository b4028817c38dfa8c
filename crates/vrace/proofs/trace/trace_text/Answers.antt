use Rattle.std.proofs.Common.{inr, subst, sym, ap, ◌∙◌}
use Rattle.std.proofs.lemmas.Result.{err_from_is_err_and}
use Rattle.vsrc.specs.Source.{file_bytes}
use Rattle.vmodel.specs.Run.{Setting}
use Rattle.vmodel.specs.RunProgress.{Finishes}
use Rattle.vreport.specs.Dumps.{EndsAs}
use Rattle.vrace.specs.Request.{request_of}
use Rattle.vrace.specs.Refusals.{IsReason}
use Rattle.vrace.specs.RunDumps.{IsRunFault, failures_after}
use Rattle.vrace.specs.declared.fault.Fault.{Fault}
use Rattle.vrace.proofs.ReplayLemmas.{run_reason, writing_reason, count_of_writing}
use Rattle.vrace.proofs.TraceLemmas.{traced, left_in_trace}
use Rattle.vrace.proofs.trace.trace_text.Goals as goal

pub returns-in_err-input-clause-failures : goal.returns-in_err-input-clause-failures
returns-in_err-input-clause-failures g c =
    let p = err_from_is_err_and c.from_residual.result c.from_residual.ensures.1 in
    rw (p.1, p.2) (c.in_err-input.ensures.unwritten c.args.writer.now.failures)

pub returns-in_err-end-clause-reason : goal.returns-in_err-end-clause-reason
returns-in_err-end-clause-reason g c =
    let p = err_from_is_err_and c.from_residual-in_err-end.result c.from_residual-in_err-end.ensures.1 in
    let machine = c.in_ok-input.input.machine in
    let (replayed, same, members) = c.in_ok-input.ensures.ok in
    rw (p.1, p.2) (inr (run_reason (file_bytes c.args.files.now) (request_of c.args.options.now) c.args.log.now replayed machine same c.in_err-end.field-0.0
    (subst (λ log. IsRunFault machine log c.args.options.now.limits.steps c.in_err-end.field-0.0) members c.in_err-end.ensures.reason)))

pub returns-clause-reason : goal.returns-clause-reason
returns-clause-reason g c =
    let machine = c.in_ok-input.input.machine in
    let (replayed, same, members) = c.in_ok-input.ensures.ok in
    let (n, finishes) = c.in_ok-end.ensures.ends in
    let end = c.in_ok-end.end in
    subst (IsReason (file_bytes c.args.files.now) (request_of c.args.options.now) c.args.log.now) (sym c.of_writing.ensures)
    (writing_reason (file_bytes c.args.files.now) (request_of c.args.options.now) c.args.log.now replayed machine same n end
    (subst (λ log. Finishes machine log c.args.options.now.limits.steps n end) members finishes) c.in-Err.fault)

pub returns-clause-left : goal.returns-clause-left
returns-clause-left g c =
    let input = c.in_ok-input.input in
    let (replayed, same, members) = c.in_ok-input.ensures.ok in
    let (end_at, finishes) = c.in_ok-end.ensures.ends in
    let end = c.in_ok-end.end in
    let (n, told, stops) = c.in-Err.ensures.err in
    left_in_trace (file_bytes c.args.files.now) (request_of c.args.options.now) c.args.log.now replayed input.machine same input.members members input.origins c.in_ok-input.ensures.placed n end_at end
    told finishes g.W.Write.contents c.args.writer.now c.write_trace.new.writer c.in-Err.fault c.of_writing.result c.of_writing.ensures stops

pub returns-in-Ok-clause-traced : goal.returns-in-Ok-clause-traced
returns-in-Ok-clause-traced g c =
    let input = c.in_ok-input.input in
    let (replayed, same, members) = c.in_ok-input.ensures.ok in
    let (end_at, finishes) = c.in_ok-end.ensures.ends in
    let end = c.in_ok-end.end in
    let (n, told, grown) = c.in-Ok.ensures.ok in
    (_, traced (file_bytes c.args.files.now) (request_of c.args.options.now) c.args.log.now replayed input.machine same input.members members input.origins c.in_ok-input.ensures.placed n end_at end told finishes, grown)

pub returns-clause-failures : goal.returns-clause-failures
returns-clause-failures g c =
    let (n, told, stops) = c.in-Err.ensures.err in
    let failures = c.args.writer.now.failures in
    stops.1 ∙ count_of_writing c.in-Err.fault failures ∙ ap (λ (fault : Fault). failures_after fault failures) (sym c.of_writing.ensures)

pub returns-in-Ok-clause-ends : goal.returns-in-Ok-clause-ends
returns-in-Ok-clause-ends g c =
    let machine = c.in_ok-input.input.machine in
    let (replayed, same, members) = c.in_ok-input.ensures.ok in
    let steps = c.args.options.now.limits.steps in
    let end = c.in_ok-end.end in
    record {
      replayed = replayed;
      ends = subst (λ (setting : Setting). EndsAs setting replayed.members steps end) same (subst (λ log. EndsAs machine log steps end) members c.in_ok-end.ensures.ends);
    }
