-- What an exploration reports.
use Rattle.std.proofs.Common.{◌≡◌, refl, sym, ◌∙◌}
use Rattle.statebook.specs.declared.limits.Limits.{Limits}
use Rattle.explore.specs.declared.findings.Findings.{Findings}
use Rattle.explore.specs.declared.findings.Status.{Status}
use Rattle.explore.specs.declared.findings.Status.TheVariants.{Exhausted, Cut}
use Rattle.statebook.specs.declared.reason.Reason.TheVariants.{Memory, Entries, Steps}
use Rattle.explore.specs.Found.{ListsAll, TellsEntries, TellsSteps}
use Rattle.statebook.specs.Ways.{SomeRunExceeds}
use Rattle.vmodel.specs.Run.{Setting, rules_of}
use Rattle.vmachine.specs.declared.machine_state.MachineState.{MachineState}
use Rattle.vmachine.specs.Machines.{machine_rules}
use Rattle.racebook.specs.Races.{IsWhole}
use Rattle.report_text.specs.declared.report.Outcome.TheVariants as outcome
use Rattle.report_text.specs.Report.{Report}
use Rattle.report_text.specs.WellFormed.{Each, EachTwo, IsEndBefore}
use Rattle.vreport.specs.Ends.{GivesEveryEnd, IsTrueEnd}
use Rattle.vreport.specs.Reports.{HasOutcome, IsExploration, IsHeadOf, MeansEntries, ShowsLineRaces, ShowsRaces, outcome_of}
use Rattle.vreport.specs.declared.explored.Explored.{Explored}
use Rattle.vreport.proofs.EntriesLemmas.{KnowsMachine, moved_entries}

was_exhausted : (status : Status) → outcome_of status ≡ outcome.Exhausted → status ≡ Exhausted
was_exhausted Exhausted e = refl
was_exhausted (Cut (Memory m)) e = absurd (cc)
was_exhausted (Cut Entries) e = absurd (cc)
was_exhausted (Cut Steps) e = absurd (cc)

was_cut : (status : Status) → outcome_of status ≡ outcome.CutSteps → status ≡ Cut Steps
was_cut Exhausted e = absurd (cc)
was_cut (Cut (Memory m)) e = absurd (cc)
was_cut (Cut Entries) e = absurd (cc)
was_cut (Cut Steps) e = refl

-- a run that takes more steps, of the machine and of its setting
pub steps_there : (setting : Setting) → KnowsMachine setting → (limits : Limits) → SomeRunExceeds (machine_rules setting) limits → SomeRunExceeds (rules_of setting) limits
steps_there setting known limits more = record { log = more.log; steps = more.steps; short = more.short; run = known.there more.log more.steps more.run; more = more.more }

pub exploration : (setting : Setting) → KnowsMachine setting → (limits : Limits) (findings : Findings MachineState) (report : Report) → ListsAll (machine_rules setting) limits findings →
    TellsSteps (machine_rules setting) limits findings → IsHeadOf setting limits report → HasOutcome findings.status report → Each (IsTrueEnd setting limits) report.ends → EachTwo IsEndBefore report.ends →
    GivesEveryEnd setting limits findings report.ends → ShowsRaces setting limits findings report.races →
    ShowsLineRaces setting limits findings report.line_races → IsExploration setting limits report
exploration setting known limits findings report all tells head outcome_is ends order every races lines =
    let whole : report.outcome ≡ outcome.Exhausted → IsWhole setting limits findings = λ e. (was_exhausted findings.status (sym outcome_is ∙ e), all) in
    record {
      head = head;
      ends = ends;
      ends_order = order;
      every_end = λ e. every (whole e);
      races = record {
        races = races.races;
        told_are = races.told_are;
        each = races.each;
        order = races.order;
        values_order = races.values_order;
        every = λ e. races.every (whole e);
        fewest = λ e. races.fewest (whole e);
      };
      line_races = record {
        races = lines.races;
        told_are = lines.told_are;
        each = lines.each;
        order = lines.order;
        every = λ e. lines.every (whole e);
        fewest = λ e. lines.fewest (whole e);
      };
      cut_for_steps = λ e. steps_there setting known limits (tells (was_cut findings.status (sym outcome_is ∙ e)));
    }

-- a cut for entries, of findings that mean it
pub means_entries : (setting : Setting) → KnowsMachine setting → (limits : Limits) (findings : Findings MachineState) (explored : Explored) → TellsEntries (machine_rules setting) limits findings →
    explored.status ≡ findings.status → MeansEntries setting limits explored
means_entries setting known limits findings explored entries same cut = moved_entries setting known limits (entries (sym same ∙ cut))
