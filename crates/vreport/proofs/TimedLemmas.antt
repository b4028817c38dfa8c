-- What the report of a search that goes by time says.
use Rattle.std.proofs.Common.{◌≡◌, ℕ, List, map, slice_get, Option, Some, None, refl, sym, ap, ◌∙◌, subst}
use Rattle.std.specs.Prelude.{IfSome}
use Rattle.basis.proofs.Lists.{of_mapped}
use Rattle.sched_core.specs.Rules.{stands}
use Rattle.statebook.specs.declared.limits.Limits.{Limits}
use Rattle.explore.specs.Found.{AreFound, HasEntries}
use Rattle.explore.specs.Ranked.{pairs_of}
use Rattle.explore.specs.declared.ranked_findings.RankedReason.TheVariants.{Memory, Entries, Steps, Stopped}
use Rattle.explore.specs.declared.ranked_findings.RankedStatus.{RankedStatus}
use Rattle.explore.specs.declared.ranked_findings.RankedStatus.TheVariants.{Exhausted, Cut}
use Rattle.vmodel.specs.Run.{Setting, rules_of, state_after}
use Rattle.vmodel.specs.RulesLaws.{lawful}
use Rattle.vmachine.specs.Machines.{machine_rules}
use Rattle.racebook.specs.InTime.{IsClosed, KeepsEveryEndTo, ListsAllLinesTo, ListsEveryValueTo}
use Rattle.racebook.specs.declared.timed_findings.TimedFindings.{TimedFindings}
use Rattle.report_text.specs.declared.report.Outcome.TheVariants as outcome
use Rattle.report_text.specs.Report.{LineRace, Race, Report}
use Rattle.vreport.specs.Ends.{ListsEndsOf}
use Rattle.vreport.specs.Inner.{MayBeTold}
use Rattle.vreport.specs.InTime.{AreFoundInTime, TellsOfClosed, TellsUpTo, outcome_in_time}
use Rattle.vreport.specs.Reports.{IsExploration, IsHeadOf, report_line_race, report_race}
use Rattle.vreport.specs.declared.timed.Spent.{Spent}
use Rattle.vreport.specs.declared.timed.Spent.TheVariants as spent
use Rattle.vreport.proofs.EntriesLemmas.{KnowsMachine, moved_entries}
use Rattle.vreport.proofs.ExploredLemmas.{steps_there}
use Rattle.vreport.proofs.WholeLemmas.{RunHere, ends_throughout, ends_to}

was_exhausted : (what : Spent) (status : RankedStatus) → outcome_in_time what status ≡ outcome.Exhausted → status ≡ Exhausted
was_exhausted what Exhausted e = refl
was_exhausted what (Cut (Memory m)) e = absurd (cc)
was_exhausted what (Cut Entries) e = absurd (cc)
was_exhausted what (Cut Steps) e = absurd (cc)
was_exhausted spent.Time (Cut Stopped) e = absurd (cc)
was_exhausted spent.Memory (Cut Stopped) e = absurd (cc)

was_cut : (what : Spent) (status : RankedStatus) → outcome_in_time what status ≡ outcome.CutSteps → status ≡ Cut Steps
was_cut what Exhausted e = absurd (cc)
was_cut what (Cut (Memory m)) e = absurd (cc)
was_cut what (Cut Entries) e = absurd (cc)
was_cut what (Cut Steps) e = refl
was_cut spent.Time (Cut Stopped) e = absurd (cc)
was_cut spent.Memory (Cut Stopped) e = absurd (cc)

was_full : (what : Spent) (status : RankedStatus) → outcome_in_time what status ≡ outcome.CutEntries → status ≡ Cut Entries
was_full what Exhausted e = absurd (cc)
was_full what (Cut (Memory m)) e = absurd (cc)
was_full what (Cut Entries) e = refl
was_full what (Cut Steps) e = absurd (cc)
was_full spent.Time (Cut Stopped) e = absurd (cc)
was_full spent.Memory (Cut Stopped) e = absurd (cc)

module _ (setting : Setting) (known : KnowsMachine setting) (limits : Limits) (timed : TimedFindings) (are : AreFoundInTime setting limits timed) where
  -- the ends that are kept are marks, under their logs
  pub ends_are_found : RunHere setting → AreFound (machine_rules setting) limits (pairs_of timed.ends.items)
  ends_are_found here = λ i found at.
      (let e = are.ends_found i found at in
      let t = state_after setting found.1 e.steps in
      record {
        steps = e.steps;
        run = here found.1 e.steps e.ends.run;
        at = known.one found.0 (stands (machine_rules setting) found.1 e.steps) t e.stands (known.all found.1 e.steps);
        mark = known.mark found.0 t e.stands ∙ (lawful setting).end_is_mark t e.ends.end;
        names = e.ends.names;
        within = e.within;
        short = e.short;
      })

  module _ (report : Report) (races_are : report.races ≡ map report_race timed.races.items) (lines_are : report.line_races ≡ map report_line_race timed.line_races.items)
      (listed : ListsEndsOf setting (pairs_of timed.ends.items) report.ends) where
    told_to : (closed : Option ℕ) → IfSome closed (ListsEveryValueTo setting limits.depart timed.races.items) → IfSome closed (ListsAllLinesTo setting limits.depart timed.line_races.items) →
        IfSome closed (KeepsEveryEndTo setting limits.depart (pairs_of timed.ends.items)) → TellsUpTo setting limits closed report
    told_to None races line_races ends = tt
    told_to (Some top) races line_races ends = record {
      ends = ends_to setting (pairs_of timed.ends.items) report.ends listed limits.depart top ends;
      races = record { races = timed.races.items; told_are = races_are; every = races; fewest = are.races_fewest };
      line_races = record { races = timed.line_races.items; told_are = lines_are; every = line_races; fewest = are.lines_fewest };
    }

    pub tells_up_to : TellsUpTo setting limits timed.search.closed report
    tells_up_to = told_to timed.search.closed are.races_closed are.lines_closed are.ends_closed

    pub tells_of_closed : TellsOfClosed timed.search.closed report
    tells_of_closed = record {
      races = λ i race at.
          (let m = of_mapped report_race timed.races.items i race (ap (λ (l : List Race). slice_get l i) (sym races_are) ∙ at) in
          subst (λ (r : Race). IsClosed timed.search.closed r.time) m.2 (are.of_closed.races i m.0 m.1));
      line_races = λ i race at.
          (let m = of_mapped report_line_race timed.line_races.items i race (ap (λ (l : List LineRace). slice_get l i) (sym lines_are) ∙ at) in
          subst (λ (r : LineRace). IsClosed timed.search.closed r.time) m.2 (are.of_closed.line_races i m.0 m.1));
    }

    module _ (what : Spent) (outcome_is : report.outcome ≡ outcome_in_time what timed.search.status) where
      exhausted : report.outcome ≡ outcome.Exhausted → timed.search.status ≡ Exhausted
      exhausted e = was_exhausted what timed.search.status (sym outcome_is ∙ e)

      pub explored_in_time : IsHeadOf setting limits report → MayBeTold setting limits report.ends timed.races.items timed.line_races.items → IsExploration setting limits report
      explored_in_time head may = record {
        head = head;
        ends = may.true_ends;
        ends_order = may.ends_order;
        every_end = λ e. ends_throughout setting (pairs_of timed.ends.items) report.ends listed limits.depart (are.ends_exhausted (exhausted e));
        races = record {
          races = timed.races.items;
          told_are = races_are;
          each = are.races_found;
          order = are.races_order;
          values_order = are.values_order;
          every = λ e. are.races_exhausted (exhausted e);
          fewest = λ e. are.races_fewest;
        };
        line_races = record {
          races = timed.line_races.items;
          told_are = lines_are;
          each = are.lines_found;
          order = are.lines_order;
          every = λ e. are.lines_exhausted (exhausted e);
          fewest = λ e. are.lines_fewest;
        };
        cut_for_steps = λ e. steps_there setting known limits (are.steps (was_cut what timed.search.status (sym outcome_is ∙ e)));
      }

      pub entries_in_time : report.outcome ≡ outcome.CutEntries → HasEntries (rules_of setting) limits
      entries_in_time e = moved_entries setting known limits (are.entries (was_full what timed.search.status (sym outcome_is ∙ e)))
