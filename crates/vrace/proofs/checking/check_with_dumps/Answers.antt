use Rattle.std.proofs.Common.{map, subst}
use Rattle.basis.specs.Reasons.{Because}
use Rattle.report_check.specs.FirstBad.{IsFirstBad}
use Rattle.vsrc.specs.Source.{file_bytes}
use Rattle.vrace.proofs.CheckLemmas.{false_text, true_text}
use Rattle.vrace.proofs.checking.check_with_dumps.Goals as goal

pub returns-in-Ok-clause-ok : goal.returns-in-Ok-clause-ok
returns-in-Ok-clause-ok c = λ text told.
    true_text (file_bytes c.args.files.now) text c.args.report.now (map (λ dump. dump.now) c.args.dumps.now) told c.in_ok-machine.machine c.in_ok-machine.ensures.ok c.in-Ok.ensures.ok

pub returns-in-Err-Fault-clause-reason : goal.returns-in-Err-Fault-clause-reason
returns-in-Err-Fault-clause-reason c = λ text told.
    false_text (file_bytes c.args.files.now) text c.args.report.now (map (λ dump. dump.now) c.args.dumps.now) told c.in_ok-machine.machine c.in_ok-machine.ensures.ok c.in-Err-Fault.bad c.of_bad.result
    c.of_bad.ensures (subst (Because (IsFirstBad c.in_ok-machine.machine c.args.report.now (map (λ dump. dump.now) c.args.dumps.now))) c.in-Err-Fault.field-0-is c.in-Err-Fault.ensures.bad)
