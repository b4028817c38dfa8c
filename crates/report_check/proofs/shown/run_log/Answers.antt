use Rattle.std.proofs.Common.{ℕ, ◌<◌, List, length, ap, sym, subst, le_refl, arith}
use Rattle.sched_core.specs.Rules.{NamesBelow}
use Rattle.sched_core.proofs.RunLemmas.{IsLeft, left_whole, left_next}
use Rattle.report_text.specs.Report.{Report}
use Rattle.report_check.proofs.WalkLemmas.{runs_on, stands_on}
use Rattle.report_check.proofs.shown.run_log.Goals as goal

pub walk-init : goal.walk-init
walk-init c =
    let law = c.machine_law.ensures in
    let setting = c.args.machine.now in
    let log = c.args.log.now in
    record {
      within = omega arith;
      left = subst (λ (rest : List (ℕ × ℕ)). IsLeft log rest 0) (sym c.members-rest.ensures.list) (left_whole log c.members-rest.ensures.lawful);
      run = λ k lt. absurd (omega (arith, lt));
      at = law.same setting _ _ _ (law.stands setting log 0) c.in_ok-state.ensures;
      shown = c.requires;
    }

pub note_all_shown-requires-clause-here : goal.note_all_shown-requires-clause-here
note_all_shown-requires-clause-here c = λ none.
    let log = c.args.log.now in
    let here = c.walk.invariant in
    let members_are = ap length c.members.ensures.list in
    let depart_is = ap (λ (r : Report). r.depart) c.report.view_is in
    let le = c.if-members-report.false in
    record {
      steps = c.walk.n;
      run = here.run;
      names = here.left.names c.walk.n (le_refl c.walk.n) (subst (λ (rest : List (ℕ × ℕ)). NamesBelow rest c.walk.n) (sym none) tt);
      within = here.within;
      short = omega (arith, le, members_are, depart_is);
      at = here.at;
    }

pub walk-preserved : goal.walk-preserved
walk-preserved c =
    let law = c.machine_law.ensures in
    let setting = c.args.machine.now in
    let log = c.args.log.now in
    let here = c.walk.invariant in
    let choice = c.next_choice-choice.result.0 in
    let later = c.next_choice-choice.result.1.now in
    let next = c.next_choice-choice.ensures.next in
    let steps_is = ap (λ (r : Report). r.steps) c.report.view_is in
    record {
      within = (let within = here.within in let more = c.if-n-report.false in omega (arith, within, more, steps_is));
      left = left_next log c.walk.rest.now later c.walk.n choice here.left next c.next_choice-choice.ensures.lawful;
      run = runs_on setting log c.walk.rest.now later c.walk.n choice here.left next (law.width setting) c.walk.state here.at here.run
          (subst (λ (width : ℕ). choice < width) c.width.ensures c.if-choice-width.false);
      at = stands_on setting log c.walk.rest.now later c.walk.n choice here.left next (law.width setting) c.walk.state here.at (law.same setting) (law.after setting)
          c.step.new.s c.in_ok-step.ensures.ok;
      shown = c.in_ok-next.ensures;
    }
