use Rattle.std.proofs.Common.{◌≡◌}
use Rattle.std.proofs.lemmas.Result.{err_from_is_err_and, IfErr-weaker, IfOk-weaker}
use Rattle.vsrc.specs.Source.{file_bytes}
use Rattle.vrace.specs.Request.{request_of}
use Rattle.vrace.specs.Explores.{EndsSearch, IsExploreReason, LeavesReport}
use Rattle.vrace.specs.ExploresInTime.{ExploresInTime, ReportsInTime}
use Rattle.vrace.specs.RunDumps.{failures_after}
use Rattle.vrace.proofs.ExploreLemmas.{explore_failures, explore_left, explore_reason, explores_in_time}
use Rattle.vrace.proofs.in_time.explore_text_in_time.Goals as goal

pub returns-in_err-machine-clause-failures : goal.returns-in_err-machine-clause-failures
returns-in_err-machine-clause-failures g c =
    let p = err_from_is_err_and c.from_residual.result c.from_residual.ensures.1 in
    rw (p.1, p.2) (c.in_err-machine.ensures.unwritten c.args.writer.now.failures)

pub returns-clause-report : goal.returns-clause-report
returns-clause-report g c =
    IfOk-weaker c.explore_machine_in_time.result (λ timed. ReportsInTime g.W.Write.contents c.in_ok-machine.machine c.args.options.now.limits (g.B.Budget.lacks c.explore_machine_in_time.new.budget) timed c.args.writer.now c.explore_machine_in_time.new.writer)
    (λ timed. ExploresInTime g.W.Write.contents (file_bytes c.args.files.now) (request_of c.args.options.now) c.args.options.now.limits (g.B.Budget.lacks c.explore_machine_in_time.new.budget) timed c.args.writer.now c.explore_machine_in_time.new.writer)
    (explores_in_time (file_bytes c.args.files.now) (request_of c.args.options.now) c.in_ok-machine.ensures.ok.searched c.args.options.now.limits c.in_ok-machine.machine c.in_ok-machine.ensures.ok.setting_is g.W.Write.contents c.args.writer.now c.explore_machine_in_time.new.writer (g.B.Budget.lacks c.explore_machine_in_time.new.budget)) c.explore_machine_in_time.ensures.ok

pub returns-clause-reason : goal.returns-clause-reason
returns-clause-reason g c =
    IfErr-weaker c.explore_machine_in_time.result (λ fault. EndsSearch g.W.Write.contents c.in_ok-machine.machine c.args.options.now.limits c.args.writer.now c.explore_machine_in_time.new.writer fault)
    (λ fault. IsExploreReason (file_bytes c.args.files.now) (request_of c.args.options.now) c.args.options.now.limits fault)
    (explore_reason (file_bytes c.args.files.now) (request_of c.args.options.now) c.in_ok-machine.ensures.ok.searched c.args.options.now.limits c.in_ok-machine.machine c.in_ok-machine.ensures.ok.setting_is g.W.Write.contents c.args.writer.now c.explore_machine_in_time.new.writer) c.explore_machine_in_time.ensures.err

pub returns-clause-left : goal.returns-clause-left
returns-clause-left g c =
    IfErr-weaker c.explore_machine_in_time.result (λ fault. EndsSearch g.W.Write.contents c.in_ok-machine.machine c.args.options.now.limits c.args.writer.now c.explore_machine_in_time.new.writer fault)
    (λ fault. LeavesReport g.W.Write.contents (file_bytes c.args.files.now) (request_of c.args.options.now) c.args.options.now.limits fault c.args.writer.now c.explore_machine_in_time.new.writer)
    (explore_left (file_bytes c.args.files.now) (request_of c.args.options.now) c.in_ok-machine.ensures.ok.searched c.args.options.now.limits c.in_ok-machine.machine c.in_ok-machine.ensures.ok.setting_is g.W.Write.contents c.args.writer.now c.explore_machine_in_time.new.writer) c.explore_machine_in_time.ensures.err

pub returns-clause-failures : goal.returns-clause-failures
returns-clause-failures g c =
    IfErr-weaker c.explore_machine_in_time.result (λ fault. EndsSearch g.W.Write.contents c.in_ok-machine.machine c.args.options.now.limits c.args.writer.now c.explore_machine_in_time.new.writer fault)
    (λ fault. c.explore_machine_in_time.new.writer.failures ≡ failures_after fault c.args.writer.now.failures)
    (explore_failures (file_bytes c.args.files.now) (request_of c.args.options.now) c.in_ok-machine.ensures.ok.searched c.args.options.now.limits c.in_ok-machine.machine c.in_ok-machine.ensures.ok.setting_is g.W.Write.contents c.args.writer.now c.explore_machine_in_time.new.writer) c.explore_machine_in_time.ensures.err
