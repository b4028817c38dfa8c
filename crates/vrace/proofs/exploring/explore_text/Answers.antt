use Rattle.std.proofs.Common.{◌≡◌, arith}
use Rattle.std.proofs.lemmas.Result.{err_from_is_err_and, IfErr-weaker, IfOk-weaker}
use Rattle.vsrc.specs.Source.{file_bytes}
use Rattle.vrace.specs.Request.{request_of}
use Rattle.vrace.specs.Explores.{EndsSearch, Explores, IsSharedReason, LeavesReport, Reports}
use Rattle.vrace.specs.RunDumps.{failures_after}
use Rattle.vrace.proofs.ExploreLemmas.{explore_failures, explore_left, shared_reason, explores}
use Rattle.vrace.proofs.exploring.explore_text.Goals as goal

pub returns-in_err-machine-clause-failures : goal.returns-in_err-machine-clause-failures
returns-in_err-machine-clause-failures g c =
    let p = err_from_is_err_and c.from_residual.result c.from_residual.ensures.1 in
    rw (p.1, p.2) (c.in_err-machine.ensures.unwritten c.args.writer.now.failures)

pub returns-clause-report : goal.returns-clause-report
returns-clause-report g c =
    IfOk-weaker c.explore_machine_shared.result (λ status. Reports g.W.Write.contents c.in_ok-machine.machine c.args.options.now.limits status c.args.writer.now c.explore_machine_shared.new.writer)
    (λ status. Explores g.W.Write.contents (file_bytes c.args.files.now) (request_of c.args.options.now) c.args.options.now.limits status c.args.writer.now c.explore_machine_shared.new.writer)
    (explores (file_bytes c.args.files.now) (request_of c.args.options.now) c.in_ok-machine.ensures.ok.searched c.args.options.now.limits c.in_ok-machine.machine c.in_ok-machine.ensures.ok.setting_is g.W.Write.contents c.args.writer.now c.explore_machine_shared.new.writer) c.explore_machine_shared.ensures.ok

pub returns-clause-reason : goal.returns-clause-reason
returns-clause-reason g c =
    IfErr-weaker c.explore_machine_shared.result (λ fault. EndsSearch g.W.Write.contents c.in_ok-machine.machine c.args.options.now.limits c.args.writer.now c.explore_machine_shared.new.writer fault)
    (λ fault. IsSharedReason (file_bytes c.args.files.now) (request_of c.args.options.now) c.args.options.now.limits c.args.workers fault)
    (shared_reason (file_bytes c.args.files.now) (request_of c.args.options.now) c.in_ok-machine.ensures.ok.searched c.args.options.now.limits c.in_ok-machine.machine c.in_ok-machine.ensures.ok.setting_is g.W.Write.contents c.args.writer.now c.explore_machine_shared.new.writer c.args.workers
    (omega (arith, c.if-workers-lt1.false), omega (arith, c.if-workers-gt64.false))) c.explore_machine_shared.ensures.err

pub returns-clause-left : goal.returns-clause-left
returns-clause-left g c =
    IfErr-weaker c.explore_machine_shared.result (λ fault. EndsSearch g.W.Write.contents c.in_ok-machine.machine c.args.options.now.limits c.args.writer.now c.explore_machine_shared.new.writer fault)
    (λ fault. LeavesReport g.W.Write.contents (file_bytes c.args.files.now) (request_of c.args.options.now) c.args.options.now.limits fault c.args.writer.now c.explore_machine_shared.new.writer)
    (explore_left (file_bytes c.args.files.now) (request_of c.args.options.now) c.in_ok-machine.ensures.ok.searched c.args.options.now.limits c.in_ok-machine.machine c.in_ok-machine.ensures.ok.setting_is g.W.Write.contents c.args.writer.now c.explore_machine_shared.new.writer) c.explore_machine_shared.ensures.err

pub returns-clause-failures : goal.returns-clause-failures
returns-clause-failures g c =
    IfErr-weaker c.explore_machine_shared.result (λ fault. EndsSearch g.W.Write.contents c.in_ok-machine.machine c.args.options.now.limits c.args.writer.now c.explore_machine_shared.new.writer fault)
    (λ fault. c.explore_machine_shared.new.writer.failures ≡ failures_after fault c.args.writer.now.failures)
    (explore_failures (file_bytes c.args.files.now) (request_of c.args.options.now) c.in_ok-machine.ensures.ok.searched c.args.options.now.limits c.in_ok-machine.machine c.in_ok-machine.ensures.ok.setting_is g.W.Write.contents c.args.writer.now c.explore_machine_shared.new.writer) c.explore_machine_shared.ensures.err
