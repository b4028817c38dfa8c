use Rattle.std.proofs.Common.{List, ℕ, Some, ap, subst, ◌∙◌}
use Rattle.std.proofs.lemmas.Result.{err_from_is_err_and}
use Rattle.vsrc.specs.Source.{file_bytes}
use Rattle.report_text.specs.Report.{Report}
use Rattle.vrace.specs.Refusals.{IsDesignFault}
use Rattle.vrace.proofs.CheckLemmas.{machine_made}
use Rattle.vrace.proofs.checking.machine_of.Goals as goal

pub returns-in_err-design-clause-err : goal.returns-in_err-design-clause-err
returns-in_err-design-clause-err c =
    let p = err_from_is_err_and c.from_residual.result c.from_residual.ensures.1 in
    rw (p.1, p.2) (subst (λ (top : List ℕ). IsDesignFault (file_bytes c.args.files.now) (Some top) c.in_err-design.field-0.0) (c.deref.ensures.value ∙ ap (λ (r : Report). r.top) c.report.view_is) c.in_err-design.ensures.err)

pub returns-clause-ok : goal.returns-clause-ok
returns-clause-ok c =
    machine_made (file_bytes c.args.files.now) c.args.report.now _ c.deref.result.now c.in_ok-design.design c.in_ok-machine_in.field-0
    c.report.view_is c.deref.ensures.value c.in_ok-design.ensures.read c.in_ok-design.ensures.ok c.in_ok-machine_in.ensures
