use Rattle.std.proofs.Common.{List, ap, ◌∙◌, map, subst, sym}
use Rattle.racebook.specs.Races as found
use Rattle.report_text.specs.Report.{End}
use Rattle.report_text.specs.WellFormed.{Each, EachTwo, IsEndBefore}
use Rattle.vreport.specs.Ends.{HasBytes, IsTrueEnd, ListsEndsOf, ListsEveryEnd}
use Rattle.vreport.specs.Reports.{report_line_race, report_race}
use Rattle.vreport.specs.Written.{AreHeld}
use Rattle.vreport.proofs.FormedLemmas.{told_as}
use Rattle.vreport.proofs.WholeLemmas.{ends_all}
use Rattle.vreport.proofs.report.hold_report.Goals as goal

pub report_with-requires : goal.report_with-requires
report_with-requires c =
    let limits = c.args.limits.now in
    told_as c.args.machine.now limits _ c.in_ok-found.found.items c.deref.result.now c.in_ok-printed.printed.items c.deref-2.result.now c.deref.ensures.value c.deref-2.ensures.value (record {
      true_ends = c.in_ok-ends.ensures.true_ends;
      writable = c.in_ok-ends.ensures.kept;
      ends_order = c.in_ok-ends.ensures.order;
      true_races = c.in_ok-found.ensures.found limits c.requires.found;
      races_order = c.in_ok-found.ensures.order;
      values_order = c.in_ok-found.ensures.values;
      true_lines = c.in_ok-printed.ensures.found limits c.requires.found;
      lines_order = c.in_ok-printed.ensures.order;
    })

pub returns-clause-outcome : goal.returns-clause-outcome
returns-clause-outcome c = c.in_ok-report.ensures.outcome ∙ c.outcome_of-outcome.ensures

pub returns-clause-true_ends : goal.returns-clause-true_ends
returns-clause-true_ends c = subst (λ (xs : List End). Each (IsTrueEnd c.args.machine.now c.args.limits.now) xs) (sym c.in_ok-report.ensures.ends) c.in_ok-ends.ensures.true_ends

pub returns-clause-bytes : goal.returns-clause-bytes
returns-clause-bytes c = subst (λ (xs : List End). Each (HasBytes c.args.machine.now c.args.limits.now.steps) xs) (sym c.in_ok-report.ensures.ends) c.in_ok-ends.ensures.bytes

pub returns-clause-every_end : goal.returns-clause-every_end
returns-clause-every_end c =
    let setting = c.args.machine.now in
    let limits = c.args.limits.now in
    let law = c.machine_law.ensures in
    subst (λ (xs : List End). (whole : found.IsWhole setting limits c.args.findings.now) → ListsEveryEnd setting limits.depart xs) (sym c.in_ok-report.ensures.ends)
    (λ whole. ends_all setting c.args.findings.now.marks.entries _ c.in_ok-ends.ensures.listed (law.same setting) (law.stands setting) (law.runs_back setting) (law.mark setting)
    limits.depart (whole.1 whole.0))

pub returns-clause-marked_ends : goal.returns-clause-marked_ends
returns-clause-marked_ends c =
    subst (λ (xs : List End). ListsEndsOf c.args.machine.now c.args.findings.now.marks.entries xs) (sym c.in_ok-report.ensures.ends) c.in_ok-ends.ensures.listed

pub returns-clause-ends_order : goal.returns-clause-ends_order
returns-clause-ends_order c = subst (λ (xs : List End). EachTwo IsEndBefore xs) (sym c.in_ok-report.ensures.ends) c.in_ok-ends.ensures.order

pub returns-clause-races : goal.returns-clause-races
returns-clause-races c =
    let limits = c.args.limits.now in
    record {
      races = c.in_ok-found.found.items;
      told_are = c.in_ok-report.ensures.races ∙ ap (map report_race) c.deref.ensures.value;
      each = c.in_ok-found.ensures.found limits c.requires.found;
      order = c.in_ok-found.ensures.order;
      values_order = c.in_ok-found.ensures.values;
      every = λ whole. c.in_ok-found.ensures.all limits whole;
      fewest = λ whole. c.in_ok-found.ensures.fewest limits c.requires.found whole;
      marked = c.in_ok-found.ensures.marked;
      shortest = c.in_ok-found.ensures.shortest;
    }

pub returns-clause-line_races : goal.returns-clause-line_races
returns-clause-line_races c =
    let limits = c.args.limits.now in
    record {
      races = c.in_ok-printed.printed.items;
      told_are = c.in_ok-report.ensures.line_races ∙ ap (map report_line_race) c.deref-2.ensures.value;
      each = c.in_ok-printed.ensures.found limits c.requires.found;
      order = c.in_ok-printed.ensures.order;
      every = λ whole. c.in_ok-printed.ensures.all limits whole;
      fewest = λ whole. c.in_ok-printed.ensures.fewest limits c.requires.found whole;
      marked = c.in_ok-printed.ensures.marked;
      shortest = c.in_ok-printed.ensures.shortest;
    }

pub returns-clause-held : goal.returns-clause-held
returns-clause-held c =
    subst (λ (xs : List End). AreHeld c.args.machine.now c.args.limits.now.steps xs c.in_ok-ends.field-0.held.items) (sym c.in_ok-report.ensures.ends) c.in_ok-ends.ensures.held
