-- From the check of a machine to that of files, where the head of the report asks for no more than is allowed.
use Rattle.std.proofs.Common.{◌≡◌, inl, ℕ, List, [], ◌∷◌, length, Some, refl, sym, ap, subst, ◌∙◌, suc}
use Rattle.report_text.specs.Report.{End, Report}
use Rattle.report_text.specs.ReportText.{report_text}
use Rattle.report_text.specs.WellFormed.{HaveBytes, IsNoReportText, IsReport, IsReportText}
use Rattle.vreport.specs.Truth.{IsTrueReport}
use Rattle.report_check.specs.FirstBad.{IsFirstBad}
use Rattle.report_check.specs.declared.check.FirstBad.{FirstBad}
use Rattle.report_check.specs.declared.check.FirstBad.TheVariants.{Head, End as BadEnd, Race as BadRace}
use Rattle.vdesign.specs.Design.{Design}
use Rattle.vrace.specs.Replays.{AreRead, IsDesignOfFiles}
use Rattle.vmodel.specs.Run.{Setting}
use Rattle.vrace.specs.Checks.{AsksMore, AsksTooMuch, IsCheckReason, IsMachineOf, IsReportReason, IsTrueText, fault_by}
use Rattle.vrace.specs.declared.allowed.Allowed.{Allowed}
use Rattle.vrace.specs.declared.fault.Fault.{Fault}

-- a dump for each end
pub as_many : (ends : List End) (dumps : List (List ℕ)) → HaveBytes ends dumps → length dumps ≡ length ends
as_many [] [] h = refl
as_many [] (dump ∷ dumps) h = absurd h
as_many (end ∷ ends) [] h = absurd h
as_many (end ∷ ends) (dump ∷ dumps) h = ap suc (as_many ends dumps h.1)

module _ (files : List (List ℕ)) (text : List ℕ) (report : Report) (dumps : List (List ℕ)) (is_report_text : IsReportText text (report, dumps)) (machine : Setting) (of : IsMachineOf files report machine) where
  pub true_text : IsTrueReport machine report dumps → IsTrueText files text
  true_text truth = record {
    checked = record { report = report; dumps = dumps; is_report_text = is_report_text; searched = of.searched };
    truth = subst (λ (s : Setting). IsTrueReport s report dumps) of.machine_is truth;
  }

  false_item : (bad : FirstBad) → IsFirstBad machine report dumps bad → IsReportReason files text (fault_by bad)
  false_item Head first = record {
    checked = record { report = report; dumps = dumps; is_report_text = is_report_text; searched = of.searched };
    first = subst (λ (s : Setting). IsFirstBad s report dumps Head) of.machine_is first;
  }
  false_item (BadEnd i) first = record {
    checked = record { report = report; dumps = dumps; is_report_text = is_report_text; searched = of.searched };
    first = subst (λ (s : Setting). IsFirstBad s report dumps (BadEnd i)) of.machine_is first;
  }
  false_item (BadRace i) first = record {
    checked = record { report = report; dumps = dumps; is_report_text = is_report_text; searched = of.searched };
    first = subst (λ (s : Setting). IsFirstBad s report dumps (BadRace i)) of.machine_is first;
  }

  pub false_text : (bad : FirstBad) (fault : Fault) → fault ≡ fault_by bad → IsFirstBad machine report dumps bad → IsCheckReason files text fault
  false_text bad fault is first = inl (subst (IsReportReason files text) (sym is) (false_item bad first))

-- the machine of a design of the files
pub machine_made : (files : List (List ℕ)) (report told : Report) (top : List ℕ) (design : Design) (machine : Setting) → told ≡ report → top ≡ told.top → AreRead files →
    IsDesignOfFiles files (Some top) design →
    machine ≡ record { design = design; until = told.until; grain = told.grain; departures = told.departures; looked = told.looked } → IsMachineOf files report machine
machine_made files report told top design machine told_is top_is read of is = record {
  searched = record {
    are_read = read;
    design = design;
    is_design = subst (λ (t : List ℕ). IsDesignOfFiles files (Some t) design) (top_is ∙ ap (λ (r : Report). r.top) told_is) of;
  };
  machine_is = is ∙ ap (λ (r : Report). record { design = design; until = r.until; grain = r.grain; departures = r.departures; looked = r.looked }) told_is;
}

module _ (allowed : Allowed) (text : List ℕ) where
  -- a text of no report asks for nothing
  pub no_report : IsNoReportText text → AsksTooMuch allowed text → ⊥
  no_report none much = none much.report much.dumps much.is_report_text.0 much.is_report_text.1

  -- the one report that the text is of asks for no more
  pub no_more : (report : Report) (dumps : List (List ℕ)) →
      ((r : Report) (others : List (List ℕ)) → IsReport r others → text ≡ report_text r others → (report ≡ r) × (dumps ≡ others)) →
      (AsksMore allowed report → ⊥) → AsksTooMuch allowed text → ⊥
  no_more report dumps only less much =
      less (subst (AsksMore allowed) (sym (only much.report much.dumps much.is_report_text.0 much.is_report_text.1).0) much.more)
