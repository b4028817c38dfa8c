-- What an exploration reports is true.
use Rattle.std.proofs.Common.{◌≡◌, ℕ, suc, List, [], ◌∷◌, refl, sym, subst, arith}
use Rattle.statebook.specs.declared.limits.Limits.{Limits}
use Rattle.vbits.specs.Vectors.{Vector}
use Rattle.vmodel.specs.Run.{Setting}
use Rattle.racebook.specs.LineRaces as lines
use Rattle.racebook.specs.Races as found
use Rattle.report_text.specs.Report.{End, Report}
use Rattle.report_text.specs.WellFormed.{Each}
use Rattle.vreport.specs.Ends.{IsTrueEnd}
use Rattle.vreport.specs.Formed.{IsTrueWithDumps}
use Rattle.vreport.specs.Reports.{IsExploration, report_line_race, report_race, report_value}
use Rattle.vreport.specs.Truth.{AreTrueEnds, IsTrueEndOf, IsTrueLineRace, IsTrueLines, IsTrueRace, IsTrueWitness}
use Rattle.vreport.specs.Written.{AreDumps, IsDumpOf}
use Rattle.vreport.proofs.MappedLemmas.{each_mapped}

module _ (setting : Setting) (limits : Limits) (report : Report) (depart_is : report.depart ≡ limits.depart) (steps_is : report.steps ≡ limits.steps) where
  true_end : (end : End) (dump : List ℕ) → IsTrueEnd setting limits end → IsDumpOf setting report.steps end dump → IsTrueEndOf setting report end dump
  true_end end dump t of = record {
    steps = t.steps;
    after = t.after;
    within = (let few = t.within in omega (arith, few, steps_is));
    short = (let few = t.short in omega (arith, few, depart_is));
    is_dump = of.is_dump;
  }

  true_ends : (ends : List End) (dumps : List (List ℕ)) → Each (IsTrueEnd setting limits) ends → AreDumps setting report.steps ends dumps → AreTrueEnds setting report ends dumps
  true_ends [] [] each are = refl
  true_ends [] (dump ∷ dumps) each are = absurd are
  true_ends (end ∷ ends) [] each are = absurd are
  true_ends (end ∷ ends) (dump ∷ dumps) each are = (true_end end dump (each 0 end refl) are.0, true_ends ends dumps (λ i e at. each (suc i) e at) are.1)

  -- what is seen after the steps of the witness
  true_witness : (time variable : ℕ) (seen : Vector × List (ℕ × ℕ)) → found.IsWitness setting limits time variable seen.0 seen.1 → IsTrueWitness setting report time variable (report_value seen)
  true_witness time variable seen s = record {
    value = seen.0;
    text_is = refl;
    steps = s.steps;
    run = s.shown.run;
    names = s.names;
    within = (let few = s.within in omega (arith, few, steps_is));
    at = s.steps;
    reached = omega arith;
    shown = s.shown;
    short = (let few = s.short in omega (arith, few, depart_is));
  }

  true_race : (race : found.Race) → found.IsRace setting limits race → IsTrueRace setting report (report_race race)
  true_race race is = each_mapped report_value (IsTrueWitness setting report race.time race.variable) race.values (λ i seen at. true_witness race.time race.variable seen (is.seen i seen at))

  true_lines : (time : ℕ) (side : lines.Side) → lines.IsLinesWitness setting limits time side.0 side.1 → IsTrueLines setting report time side
  true_lines time side s = record {
    steps = s.steps;
    run = s.shown.run;
    names = s.names;
    within = (let few = s.within in omega (arith, few, steps_is));
    at = s.steps;
    reached = omega arith;
    shown = s.shown;
    short = (let few = s.short in omega (arith, few, depart_is));
  }

  true_line_race : (race : lines.LineRace) → lines.IsLineRace setting limits race → IsTrueLineRace setting report (report_line_race race)
  true_line_race race is = λ i side at. true_lines race.time side (is.seen i side at)

pub exploration_true : (setting : Setting) (limits : Limits) (report : Report) → IsExploration setting limits report → IsTrueWithDumps setting report
exploration_true setting limits report x dumps are = record {
  head = x.head.setting_is;
  ends = true_ends setting limits report x.head.depart_is x.head.steps_is report.ends dumps x.ends are;
  races = subst (Each (IsTrueRace setting report)) (sym x.races.told_are)
      (each_mapped report_race (IsTrueRace setting report) x.races.races (λ i race at. true_race setting limits report x.head.depart_is x.head.steps_is race (x.races.each i race at)));
  line_races = subst (Each (IsTrueLineRace setting report)) (sym x.line_races.told_are)
      (each_mapped report_line_race (IsTrueLineRace setting report) x.line_races.races
      (λ i race at. true_line_race setting limits report x.head.depart_is x.head.steps_is race (x.line_races.each i race at)));
}
