-- Two explorations that miss nothing list the same ends and the same races; and one lists what another does whose runs are its own.
use Rattle.std.specs.declared.cmp.Ordering.TheVariants.{Less, Equal}
use Rattle.std.proofs.lemmas.Cmp.{tied_itself}
use Rattle.sched_core.specs.Bags.{bag_cmp, IsBagLess}
use Rattle.sched_core.specs.BagLaws.{bags_total}
use Rattle.std.proofs.Common.{◌≡◌, ◌≢◌, ℕ, ◌≤◌, ◌<◌, List, [], length, map, slice_get, Option, Some, None, option_map, refl, sym, ap, ◌∙◌, subst, arith}
use Rattle.std.proofs.lemmas.Option.{slice_get-map}
use Rattle.basis.proofs.Lists.{listed_place, of_mapped}
use Rattle.statebook.specs.declared.limits.Limits.{Limits}
use Rattle.vbits.specs.Vectors.{Vector}
use Rattle.sched_core.specs.declared.end.Cause.{Cause}
use Rattle.sched_core.specs.Rules.{IsRun, choice_at}
use Rattle.sched_core.specs.Replay.{EndsAfter}
use Rattle.vmodel.specs.Choices.{choices}
use Rattle.vmodel.specs.SlotEnds.{IsIdle, IsSlotEnd}
use Rattle.vmodel.specs.Queue.{Queue}
use Rattle.vmodel.specs.State.{State}
use Rattle.vmodel.specs.Run.{Setting, cause_of, rules_of, state_after}
use Rattle.plain_steps.specs.RunLaws.{HoldingEndsToo, LinesChangeNoRun, TakingIsHolding, holding, of_values}
use Rattle.vmodel.specs.RunProgress.{width_is}
use Rattle.racebook.specs.LineRaces as lines
use Rattle.racebook.specs.Races as found
use Rattle.report_text.specs.declared.report.Outcome.TheVariants.{Exhausted}
use Rattle.report_text.specs.Report.{LineRace, Race, Report}
use Rattle.vreport.specs.Agreement.{ExhaustedAgree, HasEnd, HasEndOf, HasPrinted, HasRaced, HoldingListsAll, IsPartButForLines, IsPartOf, LinesRefine}
use Rattle.vreport.specs.Ends.{IsEndAfter}
use Rattle.vreport.specs.Reports.{IsExploration, report_line_race, report_race, report_value}
use Rattle.vreport.specs.Values.{values_line}
use Rattle.value_text.specs.ValueText.{binary}

-- a bag that is less than another isn't that one
less_differs : (a b : List (List ℕ)) → IsBagLess a b → a ≢ b
less_differs a b less same =
    let tied : bag_cmp a b ≡ Equal = ap (λ (x : List (List ℕ)). bag_cmp x b) same ∙ tied_itself bags_total b in
    let bad : Less ≡ Equal = sym less ∙ tied in
    cc

-- Runs of the one setting are runs of the other, end there where they end here, and look alike but for what is held back and printed.
record Carries (from to : Setting) : Type 0 where
  runs : (log : List (ℕ × ℕ)) (n : ℕ) → IsRun (rules_of from) log n → IsRun (rules_of to) log n
  ends : (log : List (ℕ × ℕ)) (n : ℕ) → EndsAfter (rules_of from) log n → EndsAfter (rules_of to) log n
  values : (log : List (ℕ × ℕ)) (n : ℕ) → IsRun (rules_of from) log n → (state_after from log n).values ≡ (state_after to log n).values
  queue : (log : List (ℕ × ℕ)) (n : ℕ) → IsRun (rules_of from) log n → (state_after from log n).queue ≡ (state_after to log n).queue
  cause : (log : List (ℕ × ℕ)) (n : ℕ) → IsRun (rules_of from) log n → (state_after from log n).cause ≡ (state_after to log n).cause

-- and print the same
abbrev PrintsSame : Setting → Setting → Type 0
PrintsSame from to = (log : List (ℕ × ℕ)) (n : ℕ) → IsRun (rules_of from) log n → (state_after from log n).printed ≡ (state_after to log n).printed

module _ (from to : Setting) (carries : Carries from to) where
  slot_there : (log : List (ℕ × ℕ)) (n time : ℕ) (values : List Vector) → IsRun (rules_of from) log n → IsSlotEnd time values (state_after from log n) →
      IsSlotEnd time values (state_after to log n)
  slot_there log n time values run slot = record {
    goes_on = sym (carries.cause log n run) ∙ slot.goes_on;
    idle = subst IsIdle (carries.queue log n run) slot.idle;
    time_is = ap (λ (q : Queue). q.time) (sym (carries.queue log n run)) ∙ slot.time_is;
    values_are = sym (carries.values log n run) ∙ slot.values_are;
  }

  value_there : (time variable : ℕ) (value : Vector) (log : List (ℕ × ℕ)) (n : ℕ) → found.ShowsValue from time variable value log n → found.ShowsValue to time variable value log n
  value_there time variable value log n shown = record {
    run = carries.runs log n shown.run;
    values = shown.values;
    slot = slot_there log n time shown.values shown.run shown.slot;
    value_is = shown.value_is;
  }

  lines_there : PrintsSame from to → (time : ℕ) (texts : List (List ℕ)) (log : List (ℕ × ℕ)) (n : ℕ) → lines.ShowsLines from time texts log n → lines.ShowsLines to time texts log n
  lines_there prints time texts log n shown = record {
    run = carries.runs log n shown.run;
    values = shown.values;
    slot = slot_there log n time shown.values shown.run shown.slot;
    printed = sym (prints log n shown.run) ∙ shown.printed;
  }

  end_there : (log : List (ℕ × ℕ)) (n time : ℕ) (cause : Cause) (line : List ℕ) (printed : Option (List (List ℕ))) → IsEndAfter from log n time cause line printed →
      IsEndAfter to log n time cause line (state_after to log n).printed
  end_there log n time cause line printed after =
      let run = after.ends.run in
      let queue = sym (carries.queue log n run) in
      let why = sym (carries.cause log n run) in
      let told : record { time = (state_after to log n).queue.time; cause = cause_of (state_after to log n).cause (state_after to log n).queue.beyond }
      ≡ record { time = (state_after from log n).queue.time; cause = cause_of (state_after from log n).cause (state_after from log n).queue.beyond } =
      λ i. record { time = (queue i).time; cause = cause_of (why i) (queue i).beyond } in
      record {
        ends = carries.ends log n after.ends;
        end_is = told ∙ after.end_is;
        line_is = after.line_is ∙ ap values_line (carries.values log n run);
        printed_is = refl;
      }

-- what two or more values of a race show, each by a run of so many departures
shows : (from setting : Setting) → Carries from setting → (limits : Limits) (depart : ℕ) → limits.depart ≡ depart → (race : found.Race) → found.IsRace from limits race → (i : ℕ) (s : Vector × List (ℕ × ℕ)) → slice_get race.values i ≡ Some s →
    found.SomeRunShows setting depart race.time race.variable s.0
shows from setting carries limits depart same race is i s at =
    let seen = is.seen i s at in
    record { log = s.1; steps = seen.steps; shown = value_there from setting carries race.time race.variable s.0 s.1 seen.steps seen.shown; short = subst (λ (n : ℕ). length s.1 ≤ n) same seen.short }

differs : (from setting : Setting) → Carries from setting → (limits : Limits) (depart : ℕ) → limits.depart ≡ depart → (race : found.Race) → found.IsRace from limits race → found.TwoRunsDiffer setting depart race.time race.variable
differs from setting carries limits depart same race is =
    let (a, a_at) = listed_place race.values 0 (let two = is.two in omega (arith, two)) in
    let (b, b_at) = listed_place race.values 1 (let two = is.two in omega (arith, two)) in
    record {
      one = a.0;
      other = b.0;
      shows_one = shows from setting carries limits depart same race is 0 a a_at;
      shows_other = shows from setting carries limits depart same race is 1 b b_at;
      differ = is.differ 0 1 a b (omega arith) a_at b_at;
    }

-- the same of lines
prints : (from setting : Setting) → Carries from setting → PrintsSame from setting → (limits : Limits) (depart : ℕ) → limits.depart ≡ depart → (race : lines.LineRace) → lines.IsLineRace from limits race →
    (i : ℕ) (s : lines.Side) → slice_get race.sides i ≡ Some s → lines.SomeRunPrints setting depart race.time s.0
prints from setting carries printing limits depart same race is i s at =
    let seen = is.seen i s at in
    record { log = s.1; steps = seen.steps; shown = lines_there from setting carries printing race.time s.0 s.1 seen.steps seen.shown; short = subst (λ (n : ℕ). length s.1 ≤ n) same seen.short }

print_apart : (from setting : Setting) → Carries from setting → PrintsSame from setting → (limits : Limits) (depart : ℕ) → limits.depart ≡ depart → (race : lines.LineRace) → lines.IsLineRace from limits race →
    lines.TwoRunsPrint setting depart race.time
print_apart from setting carries printing limits depart same race is =
    let (a, a_at) = listed_place race.sides 0 (let two = is.two in omega (arith, two)) in
    let (b, b_at) = listed_place race.sides 1 (let two = is.two in omega (arith, two)) in
    record {
      one = a.0;
      other = b.0;
      prints_one = prints from setting carries printing limits depart same race is 0 a a_at;
      prints_other = prints from setting carries printing limits depart same race is 1 b b_at;
      differ = λ same_lines. less_differs a.0 b.0 (is.order 0 1 a b (omega arith) a_at b_at) same_lines;
    }

module _ (from to : Setting) (carries : Carries from to) (limits others : Limits) (one other : Report) (x : IsExploration from limits one) (y : IsExploration to others other)
    (same : limits.depart ≡ others.depart) (whole : other.outcome ≡ Exhausted) where
  ends_listed : (time : ℕ) (cause : Cause) (line : List ℕ) (printed : Option (List (List ℕ))) (has : HasEnd one time cause line printed) →
      HasEnd other time cause line (state_after to has.end.log (x.ends has.place has.end has.at).steps).printed
  ends_listed time cause line printed has =
      let t = x.ends has.place has.end has.at in
      let told = (state_after to has.end.log t.steps).printed in
      let listed = y.every_end whole has.end.log t.steps has.end.time has.end.cause has.end.line told (subst (λ (n : ℕ). length has.end.log ≤ n) same t.short)
      (end_there from to carries has.end.log t.steps has.end.time has.end.cause has.end.line has.end.printed t.after) in
      record {
        place = listed.place;
        end = listed.end;
        at = listed.at;
        time_is = listed.time_is ∙ has.time_is;
        cause_is = listed.cause_is ∙ has.cause_is;
        line_is = listed.line_is ∙ has.line_is;
        printed_is = listed.printed_is;
      }

  part_ends : PrintsSame from to → (time : ℕ) (cause : Cause) (line : List ℕ) (printed : Option (List (List ℕ))) → HasEnd one time cause line printed → HasEnd other time cause line printed
  part_ends printing time cause line printed has =
      let t = x.ends has.place has.end has.at in
      subst (HasEnd other time cause line) (sym (printing has.end.log t.steps t.after.ends.run) ∙ sym t.after.printed_is ∙ has.printed_is) (ends_listed time cause line printed has)

  some_ends : (time : ℕ) (cause : Cause) (line : List ℕ) → HasEndOf one time cause line → HasEndOf other time cause line
  some_ends time cause line (printed, has) = (_, ends_listed time cause line printed has)

  part_races : (time variable : ℕ) (digits : List ℕ) → HasRaced one time variable digits → HasRaced other time variable digits
  part_races time variable digits has =
      let source = of_mapped report_race x.races.races has.place has.race (subst (λ (rs : List Race). slice_get rs has.place ≡ Some has.race) x.races.told_are has.at) in
      let is = x.races.each has.place source.0 source.1 in
      let values : map report_value source.0.values ≡ has.race.values = ap (λ (r : Race). r.values) source.2 in
      let seen = of_mapped report_value source.0.values has.value_place has.seen (subst (λ (vs : List (List ℕ × List (ℕ × ℕ))). slice_get vs has.value_place ≡ Some has.seen) (sym values) has.value_at) in
      let listed = y.races.every whole source.0.time source.0.variable seen.0.0 (differs from to carries limits others.depart same source.0 is) (shows from to carries limits others.depart same source.0 is has.value_place seen.0 seen.1) in
      record {
        place = listed.place;
        race = report_race listed.race;
        at = subst (λ (rs : List Race). slice_get rs listed.place ≡ Some (report_race listed.race)) (sym y.races.told_are)
            (slice_get-map report_race y.races.races listed.place ∙ ap (option_map report_race) listed.at);
        time_is = listed.time_is ∙ ap (λ (r : Race). r.time) source.2 ∙ has.time_is;
        variable_is = listed.variable_is ∙ ap (λ (r : Race). r.variable) source.2 ∙ has.variable_is;
        value_place = listed.value_place;
        seen = report_value listed.witness;
        value_at = slice_get-map report_value listed.race.values listed.value_place ∙ ap (option_map report_value) listed.value_at;
        digits_are = ap binary listed.value_is ∙ ap (λ (v : List ℕ × List (ℕ × ℕ)). v.0) seen.2 ∙ has.digits_are;
      }

  part_lines : PrintsSame from to → (time : ℕ) (texts : List (List ℕ)) → HasPrinted one time texts → HasPrinted other time texts
  part_lines printing time texts has =
      let source = of_mapped report_line_race x.line_races.races has.place has.race (subst (λ (rs : List LineRace). slice_get rs has.place ≡ Some has.race) x.line_races.told_are has.at) in
      let is = x.line_races.each has.place source.0 source.1 in
      let side_at : slice_get source.0.sides has.side_place ≡ Some has.side =
      subst (λ (r : LineRace). slice_get r.sides has.side_place ≡ Some has.side) (sym source.2) has.side_at in
      let listed = y.line_races.every whole source.0.time has.side.0 (print_apart from to carries printing limits others.depart same source.0 is)
      (prints from to carries printing limits others.depart same source.0 is has.side_place has.side side_at) in
      record {
        place = listed.place;
        race = report_line_race listed.race;
        at = subst (λ (rs : List LineRace). slice_get rs listed.place ≡ Some (report_line_race listed.race)) (sym y.line_races.told_are)
            (slice_get-map report_line_race y.line_races.races listed.place ∙ ap (option_map report_line_race) listed.at);
        time_is = listed.time_is ∙ ap (λ (r : LineRace). r.time) source.2 ∙ has.time_is;
        side_place = listed.side_place;
        side = listed.side;
        side_at = listed.side_at;
        lines_are = listed.lines_are ∙ has.lines_are;
      }

  is_part : PrintsSame from to → IsPartOf one other
  is_part printing = record { ends = part_ends printing; races = part_races; lines = part_lines printing }

  is_part_but_for_lines : IsPartButForLines one other
  is_part_but_for_lines = record { ends = some_ends; races = part_races }

itself : (setting : Setting) → Carries setting setting
itself setting = record {
  runs = λ log n run. run;
  ends = λ log n ends. ends;
  values = λ log n run. refl;
  queue = λ log n run. refl;
  cause = λ log n run. refl;
}

departures_same : (from to : Setting) (limits others : Limits) (one other : Report) → IsExploration from limits one → IsExploration to others other → one.depart ≡ other.depart →
    limits.depart ≡ others.depart
departures_same from to limits others one other x y departs = sym x.head.depart_is ∙ departs ∙ y.head.depart_is

pub exhausted_agree : ExhaustedAgree
exhausted_agree setting limits others one other x y departs one_whole other_whole =
    let same : limits.depart ≡ others.depart = departures_same setting setting limits others one other x y departs in (
      is_part setting setting (itself setting) limits others one other x y same other_whole (λ log n run. refl),
      is_part setting setting (itself setting) others limits other one y x (sym same) one_whole (λ log n run. refl),
    )

-- ---- departures that hold back

pub holding_lists_all : TakingIsHolding → HoldingEndsToo → HoldingListsAll
holding_lists_all there ends_too setting limits others one other takes x y departs whole =
    let state_is : (log : List (ℕ × ℕ)) (n : ℕ) → IsRun (rules_of setting) log n → state_after (holding setting) log n ≡ record (state_after setting log n) { held_back = Some [] } =
    λ log n run. (there setting log n takes run).1 in
    let carries : Carries setting (holding setting) = record {
      runs = λ log n run. (there setting log n takes run).0;
      ends = λ log n ends. ends_too setting log n takes ends;
      values = λ log n run. sym (ap (λ (s : State). s.values) (state_is log n run));
      queue = λ log n run. sym (ap (λ (s : State). s.queue) (state_is log n run));
      cause = λ log n run. sym (ap (λ (s : State). s.cause) (state_is log n run));
    } in
    is_part setting (holding setting) carries limits others one other x y (departures_same setting (holding setting) limits others one other x y departs) whole
    (λ log n run. sym (ap (λ (s : State). s.printed) (state_is log n run)))

-- ---- lines

module _ (law : LinesChangeNoRun) (setting : Setting) where
  without : (log : List (ℕ × ℕ)) (n : ℕ) → state_after (of_values setting) log n ≡ record (state_after setting log n) { printed = None }
  without log n = (law setting log n).0

  width_same : (log : List (ℕ × ℕ)) (n : ℕ) → (rules_of (of_values setting)).width (state_after (of_values setting) log n) ≡ (rules_of setting).width (state_after setting log n)
  width_same log n =
      width_is (of_values setting) (state_after (of_values setting) log n) ∙ ap (λ (s : State). length (choices s)) (without log n) ∙ sym (width_is setting (state_after setting log n))

  to_values : Carries setting (of_values setting)
  to_values = record {
    runs = λ log n run k lt. subst (λ (w : ℕ). choice_at log k < w) (sym (width_same log k)) (run k lt);
    ends = λ log n ends. record {
      run = λ k lt. subst (λ (w : ℕ). choice_at log k < w) (sym (width_same log k)) (ends.run k lt);
      end = width_same log n ∙ ends.end;
      names = ends.names;
    };
    values = λ log n run. sym (ap (λ (s : State). s.values) (without log n));
    queue = λ log n run. sym (ap (λ (s : State). s.queue) (without log n));
    cause = λ log n run. sym (ap (λ (s : State). s.cause) (without log n));
  }

  from_values : Carries (of_values setting) setting
  from_values = record {
    runs = λ log n run k lt. subst (λ (w : ℕ). choice_at log k < w) (width_same log k) (run k lt);
    ends = λ log n ends. record {
      run = λ k lt. subst (λ (w : ℕ). choice_at log k < w) (width_same log k) (ends.run k lt);
      end = sym (width_same log n) ∙ ends.end;
      names = ends.names;
    };
    values = λ log n run. ap (λ (s : State). s.values) (without log n);
    queue = λ log n run. ap (λ (s : State). s.queue) (without log n);
    cause = λ log n run. ap (λ (s : State). s.cause) (without log n);
  }

pub lines_refine : LinesChangeNoRun → LinesRefine
lines_refine law setting limits others one other x y departs one_whole other_whole =
    let same : limits.depart ≡ others.depart = departures_same setting (of_values setting) limits others one other x y departs in (
      is_part_but_for_lines setting (of_values setting) (to_values law setting) limits others one other x y same other_whole,
      is_part_but_for_lines (of_values setting) setting (from_values law setting) others limits other one y x (sym same) one_whole,
    )
