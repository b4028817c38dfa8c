-- The ends that are listed are those of runs, and where the marks are all, or all up to a time, so are they.
use Rattle.std.proofs.Common.{◌≡◌, ℕ, ◌≤◌, ◌⊎◌, true, List, length, Option, Some, refl, sym, ap, ◌∙◌, subst, inl, inr, le_refl, arith}
use Rattle.std.proofs.lemmas.Option.{same_Some}
use Rattle.basis.proofs.Lists.{place_within, at_contains}
use Rattle.sched_core.specs.Rules.{IsRun, stands}
use Rattle.statebook.specs.Covered.{IsCovered}
use Rattle.statebook.specs.declared.limits.Limits.{Limits}
use Rattle.explore.specs.Found.{AreFound, IsListedMark}
use Rattle.sched_core.specs.declared.end.Cause.{Cause}
use Rattle.sched_core.specs.declared.end.End.{End}
use Rattle.vmodel.specs.State.{State}
use Rattle.vmodel.specs.Choices.{choices}
use Rattle.vmodel.specs.Run.{Setting, rules_of, state_after}
use Rattle.vmodel.specs.RulesLaws.{lawful}
use Rattle.vmodel.specs.RunProgress.{width_is}
use Rattle.vmachine.specs.declared.machine_state.MachineState.{MachineState}
use Rattle.vmachine.specs.Machines.{Stands, machine_rules}
use Rattle.vmachine.specs.Reads.{end_in}
use Rattle.report_text.specs.Report.{End as ReportEnd}
use Rattle.report_text.specs.WellFormed.{Each}
use Rattle.vreport.specs.declared.row.Row.{Row}
use Rattle.vreport.specs.Ends.{HasBytes, IsEndAfter, IsTrueEnd, ListsEnd, ListsEndsOf, ListsEveryEnd}
use Rattle.vreport.specs.InTime.{ListsEveryEndTo}
use Rattle.vreport.specs.Values.{values_line}
use Rattle.vreport.specs.Inner.{AreEnds, AreRows, HasRow, IsEndOfRow, IsNoEnd, IsWritable, order_of}
use Rattle.racebook.proofs.InTimeLemmas.{told_where_ended}
use Rattle.racebook.specs.InTime.{KeepsEnd, KeepsEveryEnd, KeepsEveryEndTo}
use Rattle.vreport.proofs.EndLemmas.{Alike, AllStand, RunThere, row_finishes}
use Rattle.vreport.proofs.ListingLemmas.{cause_exact}

abbrev pub RunHere : Setting → Type 0
RunHere setting = (log : List (ℕ × ℕ)) (n : ℕ) → IsRun (rules_of setting) log n → IsRun (machine_rules setting) log n

abbrev pub MarkAlike : Setting → Type 0
MarkAlike setting = (s : MachineState) (t : State) → Stands setting s t → (machine_rules setting).mark s ≡ (rules_of setting).mark t

module _ (setting : Setting) (limits : Limits) (marks : List (MachineState × List (ℕ × ℕ))) (rows : List Row) (ends : List ReportEnd) (are : AreEnds setting limits marks rows ends) where
  module _ (alike : Alike setting) (all : AllStand setting) (there : RunThere setting) where
    true_end : AreFound (machine_rules setting) limits marks → (row : Row) (end : ReportEnd) → IsEndOfRow setting limits marks row end → IsTrueEnd setting limits end
    true_end found row end of =
        let f = found row.place of.found of.at in
        let p = row_finishes setting alike all there limits of.found row.place row f of.of in
        let t = state_after setting of.found.1 f.steps in
        let time_is : end.time ≡ p.0.time = of.time_is ∙ p.2.time_is in
        let cause_is : end.cause ≡ p.0.cause = cause_exact end.cause p.0.cause (sym of.cause_is ∙ p.2.cause_is) in
        let told : p.0 ≡ record { time = end.time; cause = end.cause } = λ i. record { time = (sym time_is) i; cause = (sym cause_is) i } in
        let here : IsEndAfter setting of.found.1 f.steps end.time end.cause end.line end.printed = record {
          ends = p.1.ends;
          end_is = sym p.1.end_is ∙ told;
          line_is = of.line_is ∙ p.2.line_is;
          printed_is = of.printed_is ∙ p.2.printed_is;
        } in
        record {
          steps = f.steps;
          after = subst (λ (l : List (ℕ × ℕ)). IsEndAfter setting l f.steps end.time end.cause end.line end.printed) (sym of.log_is) here;
          within = f.within;
          short = (let a = f.short in let b = ap length of.log_is in omega arith);
        }

    pub ends_true : AreFound (machine_rules setting) limits marks → Each (IsTrueEnd setting limits) ends
    ends_true found = λ i end at. (let o = are.each i end at in true_end found o.row end o.of)

  pub ends_bytes : Each (HasBytes setting limits.steps) ends
  ends_bytes = λ i end at. (are.each i end at).of.bytes

  pub ends_kept : Each (IsWritable setting.looked) ends
  ends_kept = λ i end at. (are.each i end at).of.kept

  module _ (of_marks : AreRows setting marks rows) where
    row_listed : (found : MachineState × List (ℕ × ℕ)) (place : ℕ) (t : State) (time : ℕ) (cause : Cause) (line : List ℕ) (printed : Option (List (List ℕ))) (departures : ℕ) →
        Stands setting found.0 t → end_in t ≡ Some (record { time = time; cause = cause }) → line ≡ values_line t.values → printed ≡ t.printed → length found.1 ≤ departures →
        HasRow setting found place rows ⊎ IsNoEnd setting found.0 → ListsEnd ends time cause line printed departures
    row_listed found place t time cause line printed departures st told line_is printed_is few (inr bare) = absurd (let bad = bare t st in cc)
    row_listed found place t time cause line printed departures st told line_is printed_is few (inl has) =
        let at = at_contains rows has.row has.among in
        let listed = are.whole at.0 has.row (place_within rows at.0 has.row at.1) at.1 in
        let (end, is, row_at) = has.of.at_end t st in
        let same : end ≡ record { time = time; cause = cause } = same_Some end _ (sym is ∙ told) in
        record {
          place = listed.place;
          end = listed.end;
          at = listed.at;
          time_is = listed.time_is ∙ row_at.time_is ∙ ap (λ (e : End). e.time) same;
          cause_is = cause_exact listed.end.cause cause (sym listed.cause_is ∙ row_at.cause_is ∙ ap (λ (e : End). order_of e.cause) same);
          line_is = listed.line_is ∙ row_at.line_is ∙ sym line_is;
          printed_is = listed.printed_is ∙ row_at.printed_is ∙ sym printed_is;
          fewest = (let a = listed.fewest in let b = has.of.departures_are in omega arith);
        }

    -- each end among the marks
    pub ends_marked : ListsEndsOf setting marks ends
    ends_marked = λ place found t time cause at st told.
        row_listed found place t time cause (values_line t.values) t.printed (length found.1) st told refl refl (le_refl (length found.1)) (of_marks.whole place found (place_within marks place found at) at)

module _ (setting : Setting) (marks : List (MachineState × List (ℕ × ℕ))) (ends : List ReportEnd) (listed : ListsEndsOf setting marks ends) where
  -- a run that ends in a state that is kept does so in an end that is listed
  kept_listed : (log : List (ℕ × ℕ)) (steps time : ℕ) (cause : Cause) (line : List ℕ) (printed : Option (List (List ℕ))) → KeepsEnd setting marks (state_after setting log steps) (length log) →
      IsEndAfter setting log steps time cause line printed → ListsEnd ends time cause line printed (length log)
  kept_listed log steps time cause line printed kept after =
      let t = state_after setting log steps in
      let none : length (choices t) ≡ 0 = sym (width_is setting t) ∙ after.ends.end in
      let l = listed kept.place kept.end t time cause kept.at kept.stands (told_where_ended t none ∙ ap Some after.end_is) in
      record {
        place = l.place;
        end = l.end;
        at = l.at;
        time_is = l.time_is;
        cause_is = l.cause_is;
        line_is = l.line_is ∙ sym after.line_is;
        printed_is = l.printed_is ∙ sym after.printed_is;
        fewest = (let a = l.fewest in let b = kept.fewest in omega arith);
      }

  pub ends_all : Alike setting → AllStand setting → RunHere setting → MarkAlike setting → (depart : ℕ) → IsCovered (machine_rules setting) depart (IsListedMark (machine_rules setting) marks) → ListsEveryEnd setting depart ends
  ends_all alike all here mark_alike depart covered = λ log steps time cause line printed short after.
      let s = stands (machine_rules setting) log steps in
      let t = state_after setting log steps in
      let mark : (machine_rules setting).mark s ≡ true = mark_alike s t (all log steps) ∙ (lawful setting).end_is_mark t after.ends.end in
      let l = covered log steps short (here log steps after.ends.run) mark in
      kept_listed log steps time cause line printed
      (record { place = l.place; end = l.found; at = l.at; stands = alike s l.found.0 t (all log steps) l.same; fewest = l.departures }) after

  -- where every end is kept
  pub ends_throughout : (depart : ℕ) → KeepsEveryEnd setting depart marks → ListsEveryEnd setting depart ends
  ends_throughout depart kept = λ log steps time cause line printed short after.
      kept_listed log steps time cause line printed (kept log steps short after.ends) after

  -- or those of a time
  pub ends_to : (depart top : ℕ) → KeepsEveryEndTo setting depart marks top → ListsEveryEndTo setting depart ends top
  ends_to depart top kept = λ log steps time cause line printed le short after.
      (let at : (state_after setting log steps).queue.time ≡ time = ap (λ (e : End). e.time) after.end_is in
      kept_listed log steps time cause line printed (kept log steps short after.ends (omega (arith, at, le))) after)
