use Rattle.std.proofs.Common.{ℕ, List, ap, ◌∙◌, map, refl, subst, sym}
use Rattle.report_text.specs.Report.{End}
use Rattle.report_text.specs.WellFormed.{Each}
use Rattle.explore.specs.Ranked.{pairs_of}
use Rattle.vreport.specs.Ends.{HasBytes, ListsEndsOf}
use Rattle.vreport.specs.Inner.{MayBeTold}
use Rattle.vreport.specs.Reports.{report_line_race, report_race}
use Rattle.vreport.specs.Written.{AreHeld}
use Rattle.vreport.proofs.EntriesLemmas.{KnowsMachine}
use Rattle.vreport.proofs.FormedLemmas.{told_as}
use Rattle.vreport.proofs.TimedLemmas.{ends_are_found, entries_in_time, explored_in_time, tells_of_closed, tells_up_to}
use Rattle.vreport.proofs.timed.report_timed.Goals as goal

pub ends_of-requires : goal.ends_of-requires
ends_of-requires c =
    let law = c.machine_law.ensures in
    let setting = c.args.machine.now in
    let known : KnowsMachine setting = record {
      there = law.runs setting;
      alike = law.same setting;
      all = law.stands setting;
      first = law.first setting;
      width = law.width setting;
      mark = law.mark setting;
      one = law.one setting;
      only = law.only setting;
    } in
    record { found = ends_are_found setting known c.args.limits.now c.args.found.now c.requires (law.runs_back setting) }

pub report_with-requires : goal.report_with-requires
report_with-requires c =
    let are = c.requires in
    told_as c.args.machine.now c.args.limits.now _ c.args.found.now.races.items c.deref.result.now c.args.found.now.line_races.items c.deref-2.result.now c.deref.ensures.value c.deref-2.ensures.value (record {
      true_ends = c.in_ok-ends.ensures.true_ends;
      writable = c.in_ok-ends.ensures.kept;
      ends_order = c.in_ok-ends.ensures.order;
      true_races = are.races_found;
      races_order = are.races_order;
      values_order = are.values_order;
      true_lines = are.lines_found;
      lines_order = are.lines_order;
    })

pub returns : goal.returns
returns c =
    let law = c.machine_law.ensures in
    let setting = c.args.machine.now in
    let limits = c.args.limits.now in
    let timed = c.args.found.now in
    let report = c.in_ok-report.report in
    let are = c.requires in
    let told = c.in_ok-report.ensures in
    let known : KnowsMachine setting = record {
      there = law.runs setting;
      alike = law.same setting;
      all = law.stands setting;
      first = law.first setting;
      width = law.width setting;
      mark = law.mark setting;
      one = law.one setting;
      only = law.only setting;
    } in
    let may : MayBeTold setting limits c.in_ok-ends.field-0.ends.items timed.races.items timed.line_races.items = record {
      true_ends = c.in_ok-ends.ensures.true_ends;
      writable = c.in_ok-ends.ensures.kept;
      ends_order = c.in_ok-ends.ensures.order;
      true_races = are.races_found;
      races_order = are.races_order;
      values_order = are.values_order;
      true_lines = are.lines_found;
      lines_order = are.lines_order;
    } in
    let races_are = told.races ∙ ap (map report_race) c.deref.ensures.value in
    let lines_are = told.line_races ∙ ap (map report_line_race) c.deref-2.ensures.value in
    let listed = subst (λ (xs : List End). ListsEndsOf setting (pairs_of timed.ends.items) xs) (sym told.ends) c.in_ok-ends.ensures.listed in
    let outcome_is = told.outcome ∙ c.outcome_of-outcome.ensures in
    let steps_are = sym told.head.steps_is in
    record {
      exploration = explored_in_time setting known limits timed are report races_are lines_are listed c.args.spent outcome_is told.head
          (subst (λ (xs : List End). MayBeTold setting limits xs timed.races.items timed.line_races.items) (sym told.ends) may);
      up_to = tells_up_to setting known limits timed are report races_are lines_are listed;
      of_closed = tells_of_closed setting known limits timed are report races_are lines_are listed;
      search = refl;
      outcome = outcome_is;
      entries = entries_in_time setting known limits timed are report races_are lines_are listed c.args.spent outcome_is;
      bytes = subst (λ (steps : ℕ). Each (HasBytes setting steps) report.ends) steps_are (subst (λ (xs : List End). Each (HasBytes setting limits.steps) xs) (sym told.ends) c.in_ok-ends.ensures.bytes);
      formed = told.formed;
      held = subst (λ (steps : ℕ). AreHeld setting steps report.ends c.in_ok-ends.field-0.held.items) steps_are
          (subst (λ (xs : List End). AreHeld setting limits.steps xs c.in_ok-ends.field-0.held.items) (sym told.ends) c.in_ok-ends.ensures.held);
      long = tt;
    }
