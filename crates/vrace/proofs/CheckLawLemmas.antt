-- One text, one report, one answer to whether it is true.
use Rattle.std.proofs.Common.{◌≡◌, ℕ, zero, suc, ◌-◌, ◌<◌, ◌^◌, List, [], ◌∷◌, length, slice_get, Some, inl, inr, sym, subst, ◌∙◌, arith}
use Rattle.std.proofs.lemmas.Option.{same_Some}
use Rattle.vsrc.specs.Expansion.{expanded_text, expanded_timescale}
use Rattle.vmodel.specs.Run.{Setting}
use Rattle.report_text.specs.Report.{End, Report}
use Rattle.report_text.specs.WellFormed.{IsReportText, OneReportForText}
use Rattle.vreport.specs.Truth.{AreTrueEnds, IsTrueEndOf, IsTrueReport}
use Rattle.report_check.specs.FirstBad.{IsFirstBad}
use Rattle.report_check.specs.declared.check.FirstBad.{FirstBad}
use Rattle.report_check.specs.declared.check.FirstBad.TheVariants as bad
use Rattle.vrace.specs.Checks.{AsksTooMuch, Checked, HasNoSetting, IsCheckReason, IsFalseAt, IsReportReason, IsTrueText, all_allowed, setting_by}
use Rattle.vrace.specs.Refusals.{IsOfMemory}
use Rattle.vrace.specs.Replays.{IsDesignOfFiles}
use Rattle.vrace.specs.declared.fault.Fault.{Fault}
use Rattle.vrace.specs.declared.fault.Fault.TheVariants.{NotEnded, BadToken, Directive, NoMacro, TooLarge, LeftOpen, Timescales, NoTree, Outside, TooDeep, NoDesign, BadLog, NoSuchChoice, TooManySteps, OutOfLimit, BadReport, FalseEnd, FalseRace, FalseHead, Memory, Write, Read, TooLong}
use Rattle.vrace.proofs.LawLemmas.{Laws, not_for_design, one_design_of}

-- of a list of true ends each is true, with its dump
end_at : (setting : Setting) (report : Report) (ends : List End) (dumps : List (List ℕ)) (i : ℕ) (end : End) (dump : List ℕ) → AreTrueEnds setting report ends dumps →
    slice_get ends i ≡ Some end → slice_get dumps i ≡ Some dump → IsTrueEndOf setting report end dump
end_at setting report [] dumps i end dump true_ends at dump_at = absurd cc
end_at setting report (e ∷ ends) [] i end dump true_ends at dump_at = absurd true_ends
end_at setting report (e ∷ ends) (d ∷ dumps) zero end dump true_ends at dump_at =
    subst (λ (x : End). IsTrueEndOf setting report x dump) (same_Some e end at)
    (subst (λ (x : List ℕ). IsTrueEndOf setting report e x) (same_Some d dump dump_at) true_ends.0)
end_at setting report (e ∷ ends) (d ∷ dumps) (suc i) end dump true_ends at dump_at = end_at setting report ends dumps i end dump true_ends.1 at dump_at

-- no item of a true report is the first that isn't
none_bad : (setting : Setting) (report : Report) (dumps : List (List ℕ)) (item : FirstBad) → IsTrueReport setting report dumps → IsFirstBad setting report dumps item → ⊥
none_bad setting report dumps bad.Head truth first = first truth.head
none_bad setting report dumps (bad.End place) truth (head, before, false_end) =
    false_end.not_true (end_at setting report report.ends dumps place false_end.end false_end.dump truth.ends false_end.at false_end.dump_at)
none_bad setting report dumps (bad.Race place) truth (head, ends, before, false_race) = elim false_race [
  | inl of_variable ↦ of_variable.not_true (truth.races place of_variable.race of_variable.at)
  | inr of_lines ↦ of_lines.not_true (truth.line_races (place - length report.races) of_lines.race of_lines.at)
]

module _ (laws : Laws) (one_report : OneReportForText) (files : List (List ℕ)) (text : List ℕ) (short : length text < 2 ^ 64) where
  same_report : (r s : Report) (dumps others : List (List ℕ)) → IsReportText text (r, dumps) → IsReportText text (s, others) → (r ≡ s) × (dumps ≡ others)
  same_report r s dumps others one other =
      one_report r s dumps others one.0 other.0 (subst (λ (t : List ℕ). length t < 2 ^ 64) one.1 short) (sym one.1 ∙ other.1)

  module _ (p q : Checked files text) where
    same : (p.report ≡ q.report) × (p.dumps ≡ q.dumps)
    same = same_report p.report q.report p.dumps q.dumps p.is_report_text q.is_report_text

    designs : p.searched.design ≡ q.searched.design
    designs =
        one_design_of laws (expanded_text files) (expanded_timescale files) (Some q.report.top) p.searched.design q.searched.design
        (subst (λ (r : Report). IsDesignOfFiles files (Some r.top) p.searched.design) same.0 p.searched.is_design) q.searched.is_design

    settings : setting_by files text p ≡ setting_by files text q
    settings = λ i. record { design = designs i; until = (same.0 i).until; grain = (same.0 i).grain; departures = (same.0 i).departures; looked = (same.0 i).looked }

    moved : (item : FirstBad) → IsFirstBad (setting_by files text q) q.report q.dumps item → IsFirstBad (setting_by files text p) p.report p.dumps item
    moved item =
        subst (λ (t : Setting × (Report × List (List ℕ))). IsFirstBad t.0 t.1.0 t.1.1 item) (sym (λ i. (settings i, (same.0 i, same.1 i))))

  module _ (truth : IsTrueText files text) where
    never_false : (item : FirstBad) → IsFalseAt files text item → ⊥
    never_false item at =
        none_bad (setting_by files text truth.checked) truth.checked.report truth.checked.dumps item truth.truth
        (moved truth.checked at.checked item at.first)

    not_for_report : (fault : Fault) → IsReportReason files text fault → IsOfMemory fault
    not_for_report BadReport none = absurd (none truth.checked.report truth.checked.dumps truth.checked.is_report_text.0 truth.checked.is_report_text.1)
    not_for_report (FalseEnd place) at = absurd (never_false (bad.End place) at)
    not_for_report (FalseRace place) at = absurd (never_false (bad.Race place) at)
    not_for_report FalseHead at = absurd (never_false bad.Head at)
    not_for_report (Memory m) r = tt
    not_for_report (NotEnded at) r = absurd r
    not_for_report (BadToken at) r = absurd r
    not_for_report (Directive at) r = absurd r
    not_for_report (NoMacro at) r = absurd r
    not_for_report (TooLarge at) r = absurd r
    not_for_report (LeftOpen at) r = absurd r
    not_for_report (Timescales at) r = absurd r
    not_for_report (NoTree at) r = absurd r
    not_for_report (Outside at) r = absurd r
    not_for_report (TooDeep at) r = absurd r
    not_for_report (NoDesign rule at) r = absurd r
    not_for_report BadLog r = absurd r
    not_for_report NoSuchChoice r = absurd r
    not_for_report TooManySteps r = absurd r
    not_for_report OutOfLimit r = absurd r
    not_for_report Write r = absurd r
    not_for_report Read r = absurd r
    not_for_report TooLong r = absurd r

    -- the files have a design by the head of any report of this text
    not_for_files : (fault : Fault) → HasNoSetting files text fault → IsOfMemory fault
    not_for_files fault none =
        let here : Checked files text = truth.checked in
        let there = same_report here.report none.report here.dumps none.dumps here.is_report_text none.is_report_text in
        not_for_design laws files here.searched.are_read (Some none.report.top) here.searched.design
        (subst (λ (r : Report). IsDesignOfFiles files (Some r.top) here.searched.design) there.0 here.searched.is_design) fault none.why

    pub not_refused : (fault : Fault) → IsCheckReason files text fault → IsOfMemory fault
    not_refused fault (inl r) = not_for_report fault r
    not_refused fault (inr r) = not_for_files fault r

-- no head asks for more than whatever a head may ask for
pub all_within : (text : List ℕ) → AsksTooMuch all_allowed text → ⊥
all_within text much = elim much.more [
  | inl later ↦ omega (arith, later, much.is_report_text.0.head.until)
  | inr longer ↦ omega (arith, longer, much.is_report_text.0.head.few_steps)
]
