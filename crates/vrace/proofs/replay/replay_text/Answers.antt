use Rattle.std.proofs.Common.{IfErr, IfOk, subst, sym}
use Rattle.std.proofs.lemmas.Result.{err_from_is_err_and}
use Rattle.vsrc.specs.Source.{file_bytes}
use Rattle.vrace.specs.Request.{request_of}
use Rattle.vmodel.specs.Run.{Setting}
use Rattle.sched_core.specs.declared.end.End.{End}
use Rattle.vreport.specs.Dumps.{EndsAs}
use Rattle.vrace.specs.RunDumps.{Ends, IsRunShown}
use Rattle.vrace.proofs.DumpLemmas.{on_ok, if_err, if_ok}
use Rattle.vrace.proofs.ReplayLemmas.{shown_so, reason, left, failures_told}
use Rattle.vrace.proofs.replay.replay_text.Goals as goal

pub returns-in_err-input-clause-failures : goal.returns-in_err-input-clause-failures
returns-in_err-input-clause-failures g c =
    let p = err_from_is_err_and c.from_residual.result c.from_residual.ensures.1 in
    rw (p.1, p.2) (c.in_err-input.ensures.unwritten c.args.writer.now.failures)

pub returns-clause-shown : goal.returns-clause-shown
returns-clause-shown g c =
    let machine = c.in_ok-input.input.machine in
    let (replayed, same, members) = c.in_ok-input.ensures.ok in
    on_ok c.show_run.result
    (λ done. (
      done.0,
      shown_so (file_bytes c.args.files.now) (request_of c.args.options.now) c.args.log.now replayed machine same c.args.show done.0
          (subst (λ log. IsRunShown c.args.show machine log c.args.options.now.limits.steps done.0) members done.1),
      done.2,
    ))
    c.show_run.ensures.ok

pub returns-clause-reason : goal.returns-clause-reason
returns-clause-reason g c =
    let machine = c.in_ok-input.input.machine in
    let (replayed, same, members) = c.in_ok-input.ensures.ok in
    if_err c.show_run.result
    (reason (file_bytes c.args.files.now) (request_of c.args.options.now) c.args.log.now replayed machine same g.W.Write.contents c.args.show
    c.args.writer.now c.show_run.new.writer)
    (subst (λ log. IfErr c.show_run.result (Ends g.W.Write.contents (IsRunShown c.args.show machine log c.args.options.now.limits.steps) machine log
    c.args.options.now.limits.steps c.args.writer.now c.show_run.new.writer)) members c.show_run.ensures.err)

pub returns-clause-left : goal.returns-clause-left
returns-clause-left g c =
    let machine = c.in_ok-input.input.machine in
    let (replayed, same, members) = c.in_ok-input.ensures.ok in
    if_err c.show_run.result
    (left (file_bytes c.args.files.now) (request_of c.args.options.now) c.args.log.now replayed machine same g.W.Write.contents c.args.show
    c.args.writer.now c.show_run.new.writer)
    (subst (λ log. IfErr c.show_run.result (Ends g.W.Write.contents (IsRunShown c.args.show machine log c.args.options.now.limits.steps) machine log
    c.args.options.now.limits.steps c.args.writer.now c.show_run.new.writer)) members c.show_run.ensures.err)

pub returns-clause-failures : goal.returns-clause-failures
returns-clause-failures g c =
    let machine = c.in_ok-input.input.machine in
    let members = c.in_ok-input.input.members in
    if_err c.show_run.result
    (failures_told g.W.Write.contents (IsRunShown c.args.show machine members c.args.options.now.limits.steps) machine members c.args.options.now.limits.steps
    c.args.writer.now c.show_run.new.writer)
    c.show_run.ensures.err

pub returns-clause-ends : goal.returns-clause-ends
returns-clause-ends g c =
    let machine = c.in_ok-input.input.machine in
    let (replayed, same, members) = c.in_ok-input.ensures.ok in
    let steps = c.args.options.now.limits.steps in
    if_ok c.show_run.result
    (λ end ends. record {
      replayed = replayed;
      ends = subst (λ (setting : Setting). EndsAs setting replayed.members steps end) same (subst (λ log. EndsAs machine log steps end) members ends);
    })
    c.show_run.ensures.ends
