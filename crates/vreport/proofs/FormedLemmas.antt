-- Ends and races that may be told make a report that can be read.
use Rattle.std.proofs.Common.{◌≡◌, ◌≢◌, ℕ, ◌≤◌, true, List, [], ◌∷◌, map, slice_get, Option, Some, None, option_map, refl, inl, inr, sym, ap, ◌∙◌, subst, arith}
use Rattle.std.proofs.lemmas.List.{length-map}
use Rattle.std.proofs.lemmas.Option.{slice_get-map, same_Some}
use Rattle.basis.proofs.Lists.{listed_place, of_mapped}
use Rattle.statebook.specs.declared.limits.Limits.{Limits}
use Rattle.vbits.specs.Vectors.{Vector}
use Rattle.vdesign.specs.Design.{Variable}
use Rattle.vwords.specs.Names.{has_letters_of_name, is_path}
use Rattle.vdesign.specs.Named.{AreNamed}
use Rattle.vmodel.specs.Kept.{AreShaped, HasShape}
use Rattle.vmodel.specs.Run.{Setting, state_after}
use Rattle.racebook.specs.LineRaces as lines
use Rattle.racebook.specs.Races as found
use Rattle.racebook.specs.Order.{AreInTextOrder}
use Rattle.report_text.specs.declared.report.Version.{Version}
use Rattle.report_text.specs.declared.report.Version.TheVariants.{One}
use Rattle.report_text.specs.declared.report.Outcome.{Outcome}
use Rattle.report_text.specs.declared.report.Outcome.TheVariants.{Exhausted, CutMemory, CutEntries, CutSteps, CutTime}
use Rattle.sched_core.specs.declared.setting.Departures.{Departures}
use Rattle.sched_core.specs.declared.setting.Departures.TheVariants.{Taking, Holding}
use Rattle.sched_core.specs.declared.setting.Looked.{Looked}
use Rattle.sched_core.specs.declared.setting.Looked.TheVariants.{Values, Lines}
use Rattle.report_text.specs.Report.{Column, End, Report}
use Rattle.report_text.specs.WellFormed.{Each, EachTwo, HaveBytes, IsColumn, IsEnd, HasViews, IsHead, IsLineOf, IsLineRaceBefore, IsLineRaceForm, IsRaceForm, IsRaceBefore, IsTextLess, IsValue}
use Rattle.vreport.specs.Ends.{IsTrueEnd}
use Rattle.vreport.specs.Formed.{IsFormed}
use Rattle.vreport.specs.Inner.{HasTimeAndLogs, HasTimeAndSideLogs, HasWidth, IsWritable, MayBeTold}
use Rattle.sched_core.specs.Bags.{AreLinesInOrder, HasLines}
use Rattle.vreport.specs.Reports.{IsHeadOf, report_line_race, report_race, report_value}
use Rattle.vreport.specs.Truth.{column_of}
use Rattle.vreport.specs.Versions.{version_for}
use Rattle.vreport.specs.Written.{AreDumps}
use Rattle.vreport.proofs.LineLemmas.{its_variable, shaped_line, shaped_value}
use Rattle.vreport.proofs.MappedLemmas.{each_mapped, two_mapped}
use Rattle.vreport.proofs.TextOrderLemmas.{text_less}

-- each value of a state has the length and the sign of its variable
abbrev pub AllShaped : Setting → Type 0
AllShaped setting = (log : List (ℕ × ℕ)) (n : ℕ) → AreShaped setting.design.variables (state_after setting log n).values

-- ---- the head

-- no report of an exploration is of the first version, and the version that it has tells its setting
never_one : (departures : Departures) (looked : Looked) (outcome : Outcome) → version_for departures looked outcome ≢ One
never_one Taking Values Exhausted e = cc
never_one Taking Values CutMemory e = cc
never_one Taking Values CutEntries e = cc
never_one Taking Values CutSteps e = cc
never_one Taking Values CutTime e = cc
never_one Taking Lines outcome e = cc
never_one Holding looked outcome e = cc

its_views : (departures : Departures) (looked : Looked) (outcome : Outcome) → HasViews (version_for departures looked outcome) departures looked outcome
its_views Taking Values Exhausted = (refl, refl, λ e. absurd (cc))
its_views Taking Values CutMemory = (refl, refl, λ e. absurd (cc))
its_views Taking Values CutEntries = (refl, refl, λ e. absurd (cc))
its_views Taking Values CutSteps = (refl, refl, λ e. absurd (cc))
its_views Taking Values CutTime = inr (inr refl)
its_views Taking Lines outcome = inr (inl refl)
its_views Holding looked outcome = inl refl

formed_head : (setting : Setting) (limits : Limits) (report : Report) → IsHeadOf setting limits report → has_letters_of_name setting.design.top ≡ true →
    setting.until ≤ 4611686018427387903 → IsHead report
formed_head setting limits report head top until = record {
  top = ap has_letters_of_name head.setting_is.top_is ∙ top;
  until = (let e = head.setting_is.until_is in omega (arith, e, until));
  depart = (let e = head.depart_is in let few = limits.within.few_departures in omega (arith, e, few));
  some_steps = (let e = head.steps_is in let some = limits.within.some_steps in omega (arith, e, some));
  few_steps = (let e = head.steps_is in let few = limits.within.few_steps in omega (arith, e, few));
  grain = λ one. absurd (never_one setting.departures setting.looked report.outcome (sym head.version_is ∙ one));
  views = subst (λ (version : Version). HasViews version report.departures report.looked report.outcome) (sym head.version_is)
      (subst (λ (departures : Departures). HasViews (version_for setting.departures setting.looked report.outcome) departures report.looked report.outcome) (sym head.setting_is.departures_are)
      (subst (λ (looked : Looked). HasViews (version_for setting.departures setting.looked report.outcome) setting.departures looked report.outcome) (sym head.setting_is.looked_is)
      (its_views setting.departures setting.looked report.outcome)));
}

-- ---- the names

formed_columns : (variables : List Variable) → ((i : ℕ) (v : Variable) → slice_get variables i ≡ Some v → is_path v.name ≡ true) → Each HasWidth (map column_of variables) →
    Each IsColumn (map column_of variables)
formed_columns variables paths widths = λ i column at.
    let (v, there, is) = of_mapped column_of variables i column at in
    let width = widths i column at in
    (subst (λ (c : Column). is_path c.name ≡ true) is (paths i v there), width.0, width.1)

-- ---- the ends

formed_ends : (setting : Setting) (limits : Limits) → AllShaped setting → (ends : List End) → Each (IsTrueEnd setting limits) ends → Each (IsWritable setting.looked) ends →
    Each (IsEnd setting.looked (map column_of setting.design.variables)) ends
formed_ends setting limits shaped ends true_ends kept = λ i end at.
    let t = true_ends i end at in
    let k = kept i end at in
    record {
      time = k.time;
      log = k.log;
      line = subst (IsLineOf (map column_of setting.design.variables)) (sym t.after.line_is)
          (shaped_line setting.design.variables (state_after setting end.log t.steps).values (shaped end.log t.steps));
      lines = k.lines;
    }

formed_bytes : (setting : Setting) (steps : ℕ) (ends : List End) (dumps : List (List ℕ)) → AreDumps setting steps ends dumps → HaveBytes ends dumps
formed_bytes setting steps [] [] are = tt
formed_bytes setting steps [] (dump ∷ dumps) are = absurd are
formed_bytes setting steps (end ∷ ends) [] are = absurd are
formed_bytes setting steps (end ∷ ends) (dump ∷ dumps) are = (are.0.bytes_are, formed_bytes setting steps ends dumps are.1)

-- ---- the races

-- the variable of the race, of whose shape each value is
record OneShape (variables : List Variable) (race : found.Race) : Type 0 where
  variable : Variable
  at : slice_get variables race.variable ≡ Some variable
  each : Each (λ (s : Vector × List (ℕ × ℕ)). HasShape variable s.0) race.values

shape_seen : (setting : Setting) (limits : Limits) → AllShaped setting → (race : found.Race) → found.IsRace setting limits race → (i : ℕ) (s : Vector × List (ℕ × ℕ)) → slice_get race.values i ≡ Some s →
    (variable : Variable) × (slice_get setting.design.variables race.variable ≡ Some variable) × HasShape variable s.0
shape_seen setting limits shaped race is i s at =
    let seen = is.seen i s at in
    its_variable setting.design.variables seen.shown.values race.variable s.0
    (subst (AreShaped setting.design.variables) seen.shown.slot.values_are (shaped s.1 seen.steps)) seen.shown.value_is

one_shape : (setting : Setting) (limits : Limits) → AllShaped setting → (race : found.Race) → found.IsRace setting limits race → OneShape setting.design.variables race
one_shape setting limits shaped race is =
    let (s, at) = listed_place race.values 0 (let two = is.two in omega (arith, two)) in
    let first = shape_seen setting limits shaped race is 0 s at in
    record {
      variable = first.0;
      at = first.1;
      each = λ i t there. (let p = shape_seen setting limits shaped race is i t there in
          subst (λ v. HasShape v t.0) (same_Some p.0 first.0 (sym p.1 ∙ first.1)) p.2);
    }

formed_race : (setting : Setting) (limits : Limits) → AllShaped setting → (race : found.Race) → found.IsRace setting limits race → AreInTextOrder race.values → HasTimeAndLogs (report_race race) →
    IsRaceForm (map column_of setting.design.variables) (report_race race)
formed_race setting limits shaped race is order kept =
    let one = one_shape setting limits shaped race is in
    record {
      time = kept.0;
      column = column_of one.variable;
      listed = slice_get-map column_of setting.design.variables race.variable ∙ ap (option_map column_of) one.at;
      two = (let e = length-map race.values report_value in let two = is.two in omega (arith, e, two));
      values = each_mapped report_value (λ v. IsValue one.variable.length v.0) race.values (λ i s at. shaped_value one.variable s.0 (one.each i s at));
      logs = kept.1;
      order = two_mapped report_value (λ v w. IsTextLess v.0 w.0) race.values (λ i j s t lt at at'.
          let p = one.each i s at in
          let q = one.each j t at' in
          text_less s.0 t.0 (p.0 ∙ sym q.0) (p.1 ∙ sym q.1) (order i j s t lt at at'));
    }

-- ---- the races of lines

-- lines are there where they are looked at
abbrev pub LooksWhereAsked : Setting → Type 0
LooksWhereAsked setting = (log : List (ℕ × ℕ)) (n : ℕ) → HasLines setting.looked (state_after setting log n).printed

lines_in_order : (looked : Looked) (printed : Option (List (List ℕ))) (texts : List (List ℕ)) → HasLines looked printed → printed ≡ Some texts → AreLinesInOrder texts
lines_in_order Values None texts has is = absurd (cc)
lines_in_order Values (Some bag) texts has is = absurd has
lines_in_order Lines None texts has is = absurd has
lines_in_order Lines (Some bag) texts has is = subst AreLinesInOrder (same_Some bag texts is) has

side_in_order : (setting : Setting) (limits : Limits) → LooksWhereAsked setting → (time : ℕ) (side : lines.Side) → lines.IsLinesWitness setting limits time side.0 side.1 → AreLinesInOrder side.0
side_in_order setting limits looks time side seen =
    lines_in_order setting.looked (state_after setting side.1 seen.steps).printed side.0 (looks side.1 seen.steps) seen.shown.printed

formed_line_race : (setting : Setting) (limits : Limits) → LooksWhereAsked setting → (race : lines.LineRace) → lines.IsLineRace setting limits race →
    HasTimeAndSideLogs (report_line_race race) → IsLineRaceForm (report_line_race race)
formed_line_race setting limits looks race is kept = record {
  time = kept.0;
  two = is.two;
  lines = λ i side at. side_in_order setting limits looks race.time side (is.seen i side at);
  logs = kept.1;
  order = is.order;
}

-- where values are looked at there is none
no_line_races : (setting : Setting) (limits : Limits) → LooksWhereAsked setting → (races : List lines.LineRace) → lines.EachLineRace (lines.IsLineRace setting limits) races →
    setting.looked ≡ Values → map report_line_race races ≡ []
no_line_races setting limits looks [] each values = refl
no_line_races setting limits looks (race ∷ races) each values =
    let is = each 0 race refl in
    let (side, at) = listed_place race.sides 0 (let two = is.two in omega (arith, two)) in
    let seen = is.seen 0 side at in
    absurd (not_looked (state_after setting side.1 seen.steps).printed side.0
    (subst (λ (looked : Looked). HasLines looked (state_after setting side.1 seen.steps).printed) values (looks side.1 seen.steps)) seen.shown.printed)
  where
    not_looked : (printed : Option (List (List ℕ))) (texts : List (List ℕ)) → HasLines Values printed → printed ≡ Some texts → ⊥
    not_looked None texts has is = cc
    not_looked (Some bag) texts has is = has

-- ---- what may be told

-- lists that are read elsewhere
pub told_as : (setting : Setting) (limits : Limits) (ends : List End) (races shown : List found.Race) (line_races printed : List lines.LineRace) → shown ≡ races → printed ≡ line_races →
    MayBeTold setting limits ends races line_races → MayBeTold setting limits ends shown printed
told_as setting limits ends races shown line_races printed same alike may =
    subst (λ (xs : List found.Race). MayBeTold setting limits ends xs printed) (sym same) (subst (λ (xs : List lines.LineRace). MayBeTold setting limits ends races xs) (sym alike) may)

-- ---- the whole

pub formed : (setting : Setting) → AllShaped setting → LooksWhereAsked setting → (limits : Limits) (report : Report) (races : List found.Race) (line_races : List lines.LineRace) → AreNamed setting.design → setting.until ≤ 4611686018427387903 →
    IsHeadOf setting limits report → Each HasWidth report.variables → MayBeTold setting limits report.ends races line_races →
    report.races ≡ map report_race races → Each HasTimeAndLogs report.races → report.line_races ≡ map report_line_race line_races → Each HasTimeAndSideLogs report.line_races → IsFormed setting report
formed setting shaped looks limits report races line_races named until head widths may told races_kept line_told lines_kept dumps are =
    let variables = setting.design.variables in
    let columns : report.variables ≡ map column_of variables = head.setting_is.variables_are in
    let kept : Each HasTimeAndLogs (map report_race races) = subst (Each HasTimeAndLogs) told races_kept in
    let each : Each (IsRaceForm (map column_of variables)) (map report_race races) = each_mapped report_race (IsRaceForm (map column_of variables)) races (λ i race at.
    formed_race setting limits shaped race (may.true_races i race at) (may.values_order i race at)
    (kept i (report_race race) (slice_get-map report_race races i ∙ ap (option_map report_race) at))) in
    let line_kept : Each HasTimeAndSideLogs (map report_line_race line_races) = subst (Each HasTimeAndSideLogs) line_told lines_kept in
    let line_each : Each IsLineRaceForm (map report_line_race line_races) = each_mapped report_line_race IsLineRaceForm line_races (λ i race at.
    formed_line_race setting limits looks race (may.true_lines i race at)
    (line_kept i (report_line_race race) (slice_get-map report_line_race line_races i ∙ ap (option_map report_line_race) at))) in
    record {
      head = formed_head setting limits report head named.top until;
      columns = subst (Each IsColumn) (sym columns) (formed_columns variables named.paths (subst (Each HasWidth) columns widths));
      names = subst (EachTwo (λ a b. a.name ≢ b.name)) (sym columns) (two_mapped column_of (λ a b. a.name ≢ b.name) variables named.distinct);
      ends = subst (λ (looked : Looked). Each (IsEnd looked report.variables) report.ends) (sym head.setting_is.looked_is)
          (subst (λ cs. Each (IsEnd setting.looked cs) report.ends) (sym columns) (formed_ends setting limits shaped report.ends may.true_ends may.writable));
      ends_order = may.ends_order;
      bytes = formed_bytes setting report.steps report.ends dumps are;
      races = subst (λ cs. Each (IsRaceForm cs) report.races) (sym columns) (subst (Each (IsRaceForm (map column_of variables))) (sym told) each);
      races_order = subst (EachTwo IsRaceBefore) (sym told) (two_mapped report_race IsRaceBefore races may.races_order);
      line_races = subst (Each IsLineRaceForm) (sym line_told) line_each;
      line_races_order = subst (EachTwo IsLineRaceBefore) (sym line_told) (two_mapped report_line_race IsLineRaceBefore line_races may.lines_order);
      no_lines = λ values. line_told ∙ no_line_races setting limits looks line_races may.true_lines (sym head.setting_is.looked_is ∙ values);
    }
