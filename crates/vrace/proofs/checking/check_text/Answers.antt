use Rattle.std.proofs.Common.{◌≡◌, List, ℕ, Bor, ap, inl, inr, length, map, subst, sym, ◌∙◌}
use Rattle.std.proofs.lemmas.List.{length-map}
use Rattle.std.proofs.lemmas.Result.{IfErr-weaker}
use Rattle.basis.proofs.Bools.{clash}
use Rattle.basis.specs.Reasons.{Because}
use Rattle.report_text.specs.Report.{Report}
use Rattle.report_text.specs.ReportText.{report_text}
use Rattle.report_text.specs.WellFormed.{IsNoReportText, IsReport, IsReportText}
use Rattle.report_text.specs.declared.report.ReportFault.{ReportFault}
use Rattle.vsrc.specs.Source.{file_bytes}
use Rattle.vrace.specs.Checks.{IsCheckReason, IsCheckReasonUnder}
use Rattle.vrace.proofs.CheckLemmas.{as_many, no_more, no_report}
use Rattle.vrace.proofs.checking.check_text.Goals as goal

pub returns-in-Err-Fault-IllFormed-clause-limit : goal.returns-in-Err-Fault-IllFormed-clause-limit
returns-in-Err-Fault-IllFormed-clause-limit c = λ much.
    absurd (no_report c.args.allowed c.args.report.now
    (subst (Because (λ (_ : ReportFault). IsNoReportText c.args.report.now)) c.in-Err-Fault-IllFormed.field-0-is c.in-Err-Fault-IllFormed.ensures.ill_formed) much)

pub returns-then-is_exceeded_by-clause-reason : goal.returns-then-is_exceeded_by-clause-reason
returns-then-is_exceeded_by-clause-reason c =
    let read = subst (λ (t : Report × List (List ℕ)). IsReportText c.args.report.now t) (sym c.with_dumps.view_is) c.in-Ok.ensures.read in
    inl (record {
      report = c.with_dumps.inside.report;
      dumps = map (λ (dump : Bor (List ℕ)). dump.now) c.with_dumps.inside.dumps.items;
      is_report_text = read;
      more = c.is_exceeded_by.ensures.0 c.if-is_exceeded_by.true;
    })

pub check_with_dumps-requires : goal.check_with_dumps-requires
check_with_dumps-requires c =
    let read = subst (λ (t : Report × List (List ℕ)). IsReportText c.args.report.now t) (sym c.with_dumps.view_is) c.in-Ok.ensures.read in
    ap length c.deref.ensures.value ∙ sym (length-map c.with_dumps.inside.dumps.items (λ (dump : Bor (List ℕ)). dump.now))
    ∙ as_many c.with_dumps.inside.report.ends (map (λ (dump : Bor (List ℕ)). dump.now) c.with_dumps.inside.dumps.items) read.0.bytes

pub returns-clause-reason : goal.returns-clause-reason
returns-clause-reason c =
    let read = subst (λ (t : Report × List (List ℕ)). IsReportText c.args.report.now t) (sym c.with_dumps.view_is) c.in-Ok.ensures.read in
    let told = subst (λ (dumps : List (Bor (List ℕ))). IsReportText c.args.report.now (c.with_dumps.inside.report, map (λ (dump : Bor (List ℕ)). dump.now) dumps)) (sym c.deref.ensures.value) read in
    IfErr-weaker c.check_with_dumps.result (IsCheckReason (file_bytes c.args.files.now) c.args.report.now) (IsCheckReasonUnder c.args.allowed (file_bytes c.args.files.now) c.args.report.now)
    (λ fault why. inr why) (c.check_with_dumps.ensures.reason c.args.report.now told)

pub returns-clause-limit : goal.returns-clause-limit
returns-clause-limit c = λ much.
    let only = subst (λ (t : Report × List (List ℕ)). (r : Report) (others : List (List ℕ)) → IsReport r others → c.args.report.now ≡ report_text r others → (t.0 ≡ r) × (t.1 ≡ others))
    (sym c.with_dumps.view_is) c.in-Ok.ensures.accepts in
    absurd (no_more c.args.allowed c.args.report.now c.with_dumps.inside.report (map (λ (dump : Bor (List ℕ)). dump.now) c.with_dumps.inside.dumps.items) only
    (λ more. clash c.is_exceeded_by.result (c.is_exceeded_by.ensures.1 more) c.if-is_exceeded_by.false) much)
