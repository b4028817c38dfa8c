-- What closings show, and the runs that they are of.
use Rattle.std.proofs.Common.{◌≡◌, ◌≢◌, ℕ, suc, ◌<◌, ◌≤◌, ◌==◌, true, false, List, [], ◌∷◌, length, slice_get, None, Option, Some}
use Rattle.std.proofs.Common.{refl, sym, ap, ◌∙◌, subst, inl, inr, arith}
use Rattle.std.specs.List.{Contains}
use Rattle.std.specs.Option.{IsSome}
use Rattle.std.proofs.lemmas.Bool.{cases_lt, ne_eqb}
use Rattle.std.proofs.lemmas.Option.{same_Some}
use Rattle.basis.proofs.Lists.{at_contains, listed_place, place_within}
use Rattle.vbits.specs.Vectors.{Vector}
use Rattle.sched_core.specs.Rules.{IsRun, NamesBelow, choice_at, stands}
use Rattle.statebook.specs.declared.limits.Limits.{Limits}
use Rattle.explore.specs.Found.{IsListedMark}
use Rattle.explore.specs.Ranked.{Closing, HandsOnFound, HasItsRank, OfEach, RanksRise}
use Rattle.vmodel.specs.State.{State}
use Rattle.vmodel.specs.Choices.{choices}
use Rattle.vmodel.specs.Run.{Setting, is_mark, rules_of, state_after}
use Rattle.vmodel.specs.RunProgress.{width_is}
use Rattle.vmodel.specs.SlotEnds.{IsSlotEnd}
use Rattle.vmachine.specs.declared.machine_state.MachineState.{MachineState}
use Rattle.vmachine.specs.Machines.{Stands, machine_rules, rank_of}
use Rattle.vmachine.specs.Reads.{slot_in}
use Rattle.racebook.specs.Inner.{AreAllLineRaces, AreAllRaces, AreSlotStates, IsOfItsTime, IsSeen, printed_of, value_of}
use Rattle.racebook.specs.LineRaces.{LineRace, ListsLines, Texts}
use Rattle.racebook.specs.Races.{ListsValue, Race}
use Rattle.racebook.specs.declared.slot_state.SlotState.{SlotState}
use Rattle.racebook.proofs.FoundLemmas.{Alike, AllStand, HasVariables, MarkAlike, RunThere, end_marked, ends_slot, lines_listed, listed}
use Rattle.racebook.proofs.FoundLemmas.{not_itself, slot_ends}
use Rattle.racebook.proofs.InTimeLemmas.{RankIsTime}
use Rattle.racebook.proofs.ListLemmas.{contains_at}
use Rattle.race_groups.specs.declared.standing.Standing.{Standing}
use Rattle.race_groups.specs.Shown.{GoesPast, IsLineRaceAt, IsLinesSide, IsRaceAt, IsValueSide, ShowsAt, ShowsWithin, SomeRunPrintsAt}
use Rattle.race_groups.specs.Shown.{SomeRunShowsAt, SomeSlotEnds, TwoRunsDifferAt, TwoRunsPrintAt, no_lines}
use Rattle.race_groups.specs.Standing.{AreStanding, AreStatesShown, GoesOnByAllStill, HasNext, IsStillOfOne, ShowsLineRace, ShowsRace}
use Rattle.race_groups.specs.Standing.{mark_of}
use Rattle.race_groups.proofs.KeptLemmas.{state_time}
use Rattle.race_groups.proofs.ListLemmas.{nothing_in}
use Rattle.race_groups.proofs.StandingLemmas.{WidthAlike, same_next}

abbrev Pair : Type 0
Pair = MachineState × List (ℕ × ℕ)

-- states that stand for each other do so after the same choice, too
abbrev pub AfterAlike : Setting → Type 0
AfterAlike setting = (s : MachineState) (t : State) (i : ℕ) → Stands setting s t →
    Stands setting ((machine_rules setting).after s i) ((rules_of setting).after t i)

-- the end of a slot has one choice at most
abbrev pub OneWay : Setting → Type 0
OneWay setting = (log : List (ℕ × ℕ)) (n : ℕ) → is_mark (state_after setting log n) ≡ true →
    length (choices (state_after setting log n)) ≤ 1

-- a mark of a run stands in a closing of its time
pub record IsIn (setting : Setting) (closings : List (Closing MachineState)) (log : List (ℕ × ℕ)) (steps : ℕ) : Type 0 where
  pub place : ℕ
  pub closing : Closing MachineState
  pub at : slice_get closings place ≡ Some closing
  pub listed : IsListedMark (machine_rules setting) closing.marks (stands (machine_rules setting) log steps) (length log)
  pub stands_so : Stands setting listed.found.0 (state_after setting log steps)
  pub rank_is : closing.rank ≡ (state_after setting log steps).queue.time

-- nothing is chosen where nothing is named
choice_beyond : (log : List (ℕ × ℕ)) (n : ℕ) → NamesBelow log n → choice_at log n ≡ 0
choice_beyond [] n below = refl
choice_beyond (m ∷ log) n below =
    let other : (m.0 == n) ≡ false = ne_eqb m.0 n (λ e. omega (arith, e, below.0)) in
    rw other (choice_beyond log n below.1)

-- one step more
run_on : (setting : Setting) (log : List (ℕ × ℕ)) (n : ℕ) → IsRun (rules_of setting) log n →
    choice_at log n < (rules_of setting).width (state_after setting log n) → IsRun (rules_of setting) log (suc n)
run_on setting log n run now k lt = elim (cases_lt k n) [
  | inl before ↦ run k before
  | inr from ↦
      let here : n ≡ k = omega (arith, lt, from) in
      subst (λ (j : ℕ). choice_at log j < (rules_of setting).width (state_after setting log j)) here now
]

some_of : (o : Option ℕ) → IsSome o → (n : ℕ) × (o ≡ Some n)
some_of None is = absurd (cc)
some_of (Some n) is = (n, refl)

mark_is : (setting : Setting) (t : State) → (rules_of setting).mark t ≡ is_mark t
unfolding rules_of
mark_is setting t = refl

-- a state of a slot shows what the state of a run does
pub record IsSeenAs (gs : List SlotState) (time : ℕ) (values : List Vector) (lines : Option Texts) : Type 0 where
  pub slot_state : SlotState
  pub among : Contains gs slot_state
  pub time_is : slot_state.time ≡ time
  pub values_are : slot_state.values.now ≡ values
  pub lines_are : printed_of slot_state ≡ lines

module _ (setting : Setting) (alike : Alike setting) (all : AllStand setting) (there : RunThere setting) (mark_alike : MarkAlike setting)
    (wide : HasVariables setting) (ranked : RankIsTime setting) (widths : WidthAlike setting) (after : AfterAlike setting)
    (one_way : OneWay setting) (limits : Limits) (closings : List (Closing MachineState))
    (found : HandsOnFound (machine_rules setting) limits closings) (ranks : OfEach closings (HasItsRank (rank_of setting)))
    (rise : RanksRise closings) where
  abbrev state_of : List (ℕ × ℕ) → ℕ → State
  state_of log steps = state_after setting log steps

  -- each mark stands at the time of its closing
  of_its_time : (i : ℕ) (c : Closing MachineState) → slice_get closings i ≡ Some c → IsOfItsTime setting c
  of_its_time i c at k mark at' =
      let f = found i c at k mark at' in
      let t = state_of mark.1 f.steps in
      let st : Stands setting mark.0 t = alike (stands (machine_rules setting) mark.1 f.steps) mark.0 t (all mark.1 f.steps) f.at in
      (t, st, sym (ranked mark.0 t st) ∙ ranks i c at k mark at')

  -- ---- what is seen is shown

  own_shown : (i : ℕ) (c : Closing MachineState) → slice_get closings i ≡ Some c → (own : List SlotState) →
      AreSlotStates setting c.marks own → (g : SlotState) → Contains own g →
      ShowsWithin setting limits g.time g.values.now (printed_of g) g.log.now
  own_shown i c at own are g has =
      let o = are.each g has in
      let f = found i c at o.place o.found o.at in
      let log = o.found.1 in
      let t = state_of log f.steps in
      let st : Stands setting o.found.0 t = alike (stands (machine_rules setting) log f.steps) o.found.0 t (all log f.steps) f.at in
      let here : ShowsWithin setting limits g.time g.values.now (printed_of g) log = record {
        steps = f.steps;
        shown = record {
          run = there log f.steps f.run;
          ended = g.time;
          slot = subst (λ (v : List Vector). IsSlotEnd g.time v t) (sym (o.of.values_are t st)) (slot_ends t g.time (o.of.slot t st));
          when = inl (refl, o.of.printed_are t st);
        };
        within = f.within;
        names = f.names;
        short = f.short;
      } in
      subst (ShowsWithin setting limits g.time g.values.now (printed_of g)) (sym o.of.log_is) here

  still_shown : (i : ℕ) (c : Closing MachineState) → slice_get closings i ≡ Some c → (standing : List Standing) →
      AreStanding setting closings i standing → (g : SlotState) → IsStillOfOne setting c.rank standing g →
      ShowsWithin setting limits c.rank g.values.now (printed_of g) g.log.now
  still_shown i c at standing stand g is =
      let one = is.one in
      let still = is.still in
      let o = stand.each one is.among in
      let m = at_contains o.closing.marks (mark_of one) o.among in
      let f = found o.place o.closing o.at m.0 (mark_of one) m.1 in
      let log = one.found.log in
      let s = one.found.state in
      let t = state_of log f.steps in
      let st : Stands setting s t = alike (stands (machine_rules setting) log f.steps) s t (all log f.steps) f.at in
      let e = some_of (slot_in t) (still.slot t st) in
      let end = slot_ends t e.0 e.1 in
      let none_named = choice_beyond log f.steps f.names in
      let same_width = widths s t st in
      let goes = o.next.goes_on in
      let run = there log f.steps f.run in
      let time_is = end.time_is in
      let rank_is : rank_of setting s ≡ o.closing.rank = ranks o.place o.closing o.at m.0 (mark_of one) m.1 in
      let rank_time : rank_of setting s ≡ t.queue.time = ranked s t st in
      let before = rise o.place i o.closing c o.before o.at at in
      let next_is = ranked ((machine_rules setting).after s 0) ((rules_of setting).after t 0) (after s t 0 st) in
      let next_time : (state_of log (suc f.steps)).queue.time ≡ ((rules_of setting).after t 0).queue.time =
      ap (λ (n : ℕ). ((rules_of setting).after t n).queue.time) none_named in
      let is_next = o.next.is in
      let past = is.past in
      let here : ShowsWithin setting limits c.rank g.values.now (printed_of g) log = record {
        steps = f.steps;
        shown = record {
          run = run;
          ended = e.0;
          slot = subst (λ (v : List Vector). IsSlotEnd e.0 v t) (sym (still.values_are t st)) end;
          when = inr (
            omega (arith, time_is, rank_is, rank_time, before),
            record {
              run = run_on setting log f.steps run (omega (arith, none_named, same_width, goes));
              later = omega (arith, past, is_next, next_is, next_time);
            },
            still.printed_are t st,
          );
        };
        within = f.within;
        names = f.names;
        short = f.short;
      } in
      subst (ShowsWithin setting limits c.rank g.values.now (printed_of g)) (sym still.log_is) here

  -- a state that a closing shows is shown by a run, at the time of the closing
  pub state_shown : (i : ℕ) (c : Closing MachineState) → slice_get closings i ≡ Some c → (standing : List Standing) →
      AreStanding setting closings i standing → (gs : List SlotState) → AreStatesShown setting c.rank c.marks standing gs →
      (g : SlotState) → Contains gs g → ShowsWithin setting limits g.time g.values.now (printed_of g) g.log.now
  state_shown i c at standing stand gs are g has = elim are.whole [
    | inl (none, empty) ↦ nothing_in g (subst (λ (l : List SlotState). Contains l g) empty has)
    | inr (some, adds) ↦ elim (adds.each g has) [
      | inl own ↦ own_shown i c at are.own are.are g own
      | inr still ↦ subst (λ (n : ℕ). ShowsWithin setting limits n g.values.now (printed_of g) g.log.now) (sym still.still.time_is)
          (still_shown i c at standing stand g still)
    ]
  ]

  pub time_of_state : (i : ℕ) (c : Closing MachineState) → slice_get closings i ≡ Some c → (standing : List Standing) (gs : List SlotState) →
      AreStatesShown setting c.rank c.marks standing gs → (g : SlotState) → Contains gs g → g.time ≡ c.rank
  time_of_state i c at standing gs are g has = state_time setting c standing gs (of_its_time i c at) are g has

  -- one of the marks is the end of a slot
  slot_of_own : (i : ℕ) (c : Closing MachineState) → slice_get closings i ≡ Some c → (own : List SlotState) →
      AreSlotStates setting c.marks own → (g : SlotState) → Contains own g → SomeSlotEnds setting limits.depart c.rank
  slot_of_own i c at own are g has =
      let o = are.each g has in
      let f = found i c at o.place o.found o.at in
      let log = o.found.1 in
      let t = state_of log f.steps in
      let st : Stands setting o.found.0 t = alike (stands (machine_rules setting) log f.steps) o.found.0 t (all log f.steps) f.at in
      let end = slot_ends t g.time (o.of.slot t st) in
      let time_is = sym end.time_is ∙ sym (ranked o.found.0 t st) ∙ ranks i c at o.place o.found o.at in
      record {
        log = log;
        steps = f.steps;
        run = there log f.steps f.run;
        values = t.values;
        slot = subst (λ (n : ℕ). IsSlotEnd n t.values t) time_is end;
        short = f.short;
      }

  first_in : (own : List SlotState) → own ≢ [] → (g : SlotState) × Contains own g
  first_in [] some = absurd (some refl)
  first_in (g ∷ own) some = (g, contains_at (g ∷ own) 0 g refl)

  pub slot_shown : (i : ℕ) (c : Closing MachineState) → slice_get closings i ≡ Some c → (standing : List Standing) (gs : List SlotState) →
      AreStatesShown setting c.rank c.marks standing gs → (g : SlotState) → Contains gs g → SomeSlotEnds setting limits.depart c.rank
  slot_shown i c at standing gs are g has = elim are.whole [
    | inl (none, empty) ↦ nothing_in g (subst (λ (l : List SlotState). Contains l g) empty has)
    | inr (some, adds) ↦ (let first = first_in are.own some in slot_of_own i c at are.own are.are first.0 first.1)
  ]

  value_side : (i : ℕ) (c : Closing MachineState) → slice_get closings i ≡ Some c → (standing : List Standing) →
      AreStanding setting closings i standing → (gs : List SlotState) → AreStatesShown setting c.rank c.marks standing gs →
      (time variable : ℕ) (v : Vector) (log : List (ℕ × ℕ)) → IsSeen (value_of variable) gs time v log →
      IsValueSide setting limits time variable v log
  value_side i c at standing stand gs are time variable v log seen =
      let g = seen.slot_state in
      let here = state_shown i c at standing stand gs are g seen.among in
      record {
        values = g.values.now;
        lines = printed_of g;
        shown = subst (λ (n : ℕ). ShowsWithin setting limits n g.values.now (printed_of g) log) seen.time_is
            (subst (ShowsWithin setting limits g.time g.values.now (printed_of g)) seen.log_is here);
        value_is = seen.value_is;
      }

  lines_side : (i : ℕ) (c : Closing MachineState) → slice_get closings i ≡ Some c → (standing : List Standing) →
      AreStanding setting closings i standing → (gs : List SlotState) → AreStatesShown setting c.rank c.marks standing gs →
      (time : ℕ) (lines : Texts) (log : List (ℕ × ℕ)) → IsSeen printed_of gs time lines log → IsLinesSide setting limits time lines log
  lines_side i c at standing stand gs are time lines log seen =
      let g = seen.slot_state in
      let here = state_shown i c at standing stand gs are g seen.among in
      record {
        values = g.values.now;
        shown = subst (λ (l : Option Texts). ShowsWithin setting limits time g.values.now l log) seen.value_is
            (subst (λ (n : ℕ). ShowsWithin setting limits n g.values.now (printed_of g) log) seen.time_is
            (subst (ShowsWithin setting limits g.time g.values.now (printed_of g)) seen.log_is here));
      }

  -- the time of what is seen is one at which a slot ends
  slot_seen : (i : ℕ) (c : Closing MachineState) → slice_get closings i ≡ Some c → (standing : List Standing) (gs : List SlotState) →
      AreStatesShown setting c.rank c.marks standing gs → {V : Type 0} (shown : SlotState → Option V) (time : ℕ) (v : V)
      (log : List (ℕ × ℕ)) → IsSeen shown gs time v log → SomeSlotEnds setting limits.depart time
  slot_seen i c at standing gs are shown time v log seen =
      subst (SomeSlotEnds setting limits.depart) (sym (time_of_state i c at standing gs are seen.slot_state seen.among) ∙ seen.time_is)
      (slot_shown i c at standing gs are seen.slot_state seen.among)

  -- so each race that a closing shows is one
  pub race_shown : (i : ℕ) (c : Closing MachineState) → slice_get closings i ≡ Some c → (race : Race) →
      ShowsRace setting closings i c race → IsRaceAt setting limits race
  race_shown i c at race shown =
      let p = at_contains shown.races race shown.has in
      let r = shown.are.all.each p.0 race p.1 in
      let two = r.two in
      let s = listed_place race.values 0 (omega (arith, two)) in
      record {
        two = two;
        differ = λ j k v w lt here here'. not_itself v.0 w.0 (r.order j k v w lt here here');
        seen = λ j v here. value_side i c at shown.standing shown.stand shown.are.slot_states shown.are.are race.time race.variable v.0 v.1
            (r.seen j v here);
        slot = slot_seen i c at shown.standing shown.are.slot_states shown.are.are (value_of race.variable) race.time s.0.0 s.0.1
            (r.seen 0 s.0 s.1);
      }

  pub line_race_shown : (i : ℕ) (c : Closing MachineState) → slice_get closings i ≡ Some c → (race : LineRace) →
      ShowsLineRace setting closings i c race → IsLineRaceAt setting limits race
  line_race_shown i c at race shown =
      let p = at_contains shown.races race shown.has in
      let r = shown.are.all.each p.0 race p.1 in
      let two = r.two in
      let s = listed_place race.sides 0 (omega (arith, two)) in
      record {
        two = two;
        order = r.order;
        seen = λ j v here. lines_side i c at shown.standing shown.stand shown.are.slot_states shown.are.are race.time v.0 v.1
            (r.seen j v here);
        slot = slot_seen i c at shown.standing shown.are.slot_states shown.are.are printed_of race.time s.0.0 s.0.1
            (r.seen 0 s.0 s.1);
      }

  -- ---- what is shown is seen

  -- of two closings the one of the lower rank comes first
  comes_first : (i j : ℕ) (c d : Closing MachineState) → slice_get closings i ≡ Some c → slice_get closings j ≡ Some d → c.rank < d.rank →
      i < j
  comes_first i j c d at at' less = elim (cases_lt i j) [
    | inl before ↦ before
    | inr from ↦ elim (cases_lt j i) [
      | inl behind ↦ absurd (let lt = rise j i d c behind at' at in omega (arith, lt, less))
      | inr both ↦ absurd (
          let here : j ≡ i = omega (arith, from, both) in
          let same : d ≡ c = same_Some d c (sym at' ∙ ap (slice_get closings) here ∙ at) in
          let e = ap (λ (x : Closing MachineState). x.rank) same in
          omega (arith, e, less))
    ]
  ]

  one_of : (i j : ℕ) (c d : Closing MachineState) → slice_get closings i ≡ Some c → slice_get closings j ≡ Some d → c.rank ≡ d.rank → d ≡ c
  one_of i j c d at at' same = elim (cases_lt i j) [
    | inl before ↦ absurd (let lt = rise i j c d before at at' in omega (arith, lt, same))
    | inr from ↦ elim (cases_lt j i) [
      | inl behind ↦ absurd (let lt = rise j i d c behind at' at in omega (arith, lt, same))
      | inr both ↦ (let e : j ≡ i = omega (arith, from, both) in same_Some d c (sym at' ∙ ap (slice_get closings) e ∙ at))
    ]
  ]

  -- the slot end of a run, in the closing of its time
  own_seen : (c : Closing MachineState) (own : List SlotState) → AreSlotStates setting c.marks own →
      (time : ℕ) (values : List Vector) (log : List (ℕ × ℕ)) (steps : ℕ) → IsSlotEnd time values (state_of log steps) →
      IsListedMark (machine_rules setting) c.marks (stands (machine_rules setting) log steps) (length log) →
      IsSeenAs own time values (state_of log steps).printed
  own_seen c own are time values log steps is l =
      let t = state_of log steps in
      let st : Stands setting l.found.0 t = alike (stands (machine_rules setting) log steps) l.found.0 t (all log steps) l.same in
      let slot : slot_in t ≡ Some time = ends_slot t time values is in
      let h = are.whole l.place l.found t time (place_within c.marks l.place l.found l.at) l.at st (wide log steps) slot in
      record {
        slot_state = h.slot_state;
        among = h.among;
        time_is = same_Some h.slot_state.time time (sym (h.of.slot t st) ∙ slot);
        values_are = h.of.values_are t st ∙ is.values_are;
        lines_are = h.of.printed_are t st;
      }

  module _ (i : ℕ) (c : Closing MachineState) (at : slice_get closings i ≡ Some c) (standing : List Standing)
      (stand : AreStanding setting closings i standing) (gs : List SlotState) (are : AreStatesShown setting c.rank c.marks standing gs)
      (in_one : (log : List (ℕ × ℕ)) (steps : ℕ) → length log ≤ limits.depart → IsRun (rules_of setting) log steps →
      (machine_rules setting).mark (stands (machine_rules setting) log steps) ≡ true → (state_after setting log steps).queue.time ≤ c.rank →
      IsIn setting closings log steps) where
    end_in : (time : ℕ) (values : List Vector) (log : List (ℕ × ℕ)) (steps : ℕ) → length log ≤ limits.depart →
        IsRun (rules_of setting) log steps → IsSlotEnd time values (state_of log steps) → time ≤ c.rank → IsIn setting closings log steps
    end_in time values log steps short run is le =
        let e = is.time_is in
        in_one log steps short run (end_marked setting all mark_alike time values log steps is) (omega (arith, e, le))

    listed_here : (values : List Vector) (log : List (ℕ × ℕ)) (steps : ℕ) → length log ≤ limits.depart →
        IsRun (rules_of setting) log steps → IsSlotEnd c.rank values (state_of log steps) →
        IsListedMark (machine_rules setting) c.marks (stands (machine_rules setting) log steps) (length log)
    listed_here values log steps short run is =
        let h = end_in c.rank values log steps short run is (omega arith) in
        let same = one_of i h.place c h.closing at h.at (sym is.time_is ∙ sym h.rank_is) in
        subst (λ (d : Closing MachineState). IsListedMark (machine_rules setting) d.marks (stands (machine_rules setting) log steps)
        (length log)) same h.listed

    -- where a run ends a slot then, one of its marks is seen
    some_own : SomeSlotEnds setting limits.depart c.rank → are.own ≢ []
    some_own ends none =
        let seen = own_seen c are.own are.are c.rank ends.values ends.log ends.steps ends.slot
        (listed_here ends.values ends.log ends.steps ends.short ends.run ends.slot) in
        nothing_in seen.slot_state (subst (λ (l : List SlotState). Contains l seen.slot_state) none seen.among)

    -- a run that goes past the time from an earlier slot end
    still_seen : GoesOnByAllStill setting c.rank standing are.own gs → (ended : ℕ) (values : List Vector) (log : List (ℕ × ℕ)) (steps : ℕ) →
        length log ≤ limits.depart → IsRun (rules_of setting) log steps → IsSlotEnd ended values (state_of log steps) → ended < c.rank →
        GoesPast setting c.rank log steps → IsSeenAs gs c.rank values (no_lines (state_of log steps).printed)
    still_seen adds ended values log steps short run is earlier past =
        let t = state_of log steps in
        let h = end_in ended values log steps short run is (omega (arith, earlier)) in
        let found_there = h.listed.found in
        let s = found_there.0 in
        let mark : is_mark t ≡ true = sym (mark_is setting t) ∙ sym (mark_alike (stands (machine_rules setting) log steps) t (all log steps))
        ∙ end_marked setting all mark_alike ended values log steps is in
        let few = one_way log steps mark in
        let w = width_is setting t in
        let chosen = past.run steps (omega arith) in
        let none : choice_at log steps ≡ 0 = omega (arith, few, w, chosen) in
        let same_width = widths s t h.stands_so in
        let next = rank_of setting ((machine_rules setting).after s 0) in
        let has_next : HasNext setting s next = record { goes_on = omega (arith, same_width, chosen); is = refl } in
        let next_is = ranked ((machine_rules setting).after s 0) ((rules_of setting).after t 0) (after s t 0 h.stands_so) in
        let next_time : (state_of log (suc steps)).queue.time ≡ ((rules_of setting).after t 0).queue.time =
        ap (λ (n : ℕ). ((rules_of setting).after t n).queue.time) none in
        let later = past.later in
        let past_next : c.rank < next = omega (arith, later, next_is, next_time) in
        let rank_is = h.rank_is in
        let time_is = is.time_is in
        let before = comes_first h.place i h.closing c h.at at (omega (arith, rank_is, time_is, earlier)) in
        elim (stand.whole h.place h.closing found_there next before h.at
        (contains_at h.closing.marks h.listed.place found_there h.listed.at) has_next) [
          | inl stood ↦
              let one = stood.one in
              let o = stand.each one stood.among in
              let states : one.found.state ≡ s = ap (λ (x : Pair). x.0) stood.is in
              let p = at_contains standing one stood.among in
              let st : Stands setting one.found.state t = subst (λ (x : MachineState). Stands setting x t) (sym states) h.stands_so in
              let same = same_next setting one.found.state s one.next next states o.next has_next in
              let got = adds.whole p.0 one t ended (place_within standing p.0 one p.1) p.1 st (wide log steps)
              (ends_slot t ended values is) (omega (arith, past_next, same)) in
              record {
                slot_state = got.slot_state;
                among = got.among;
                time_is = got.still.time_is;
                values_are = got.still.values_are t st ∙ is.values_are;
                lines_are = got.still.printed_are t st;
              }
          | inr come ↦ absurd (let lt = rise come.place i come.closing c come.before come.at at in let le = come.come in
              omega (arith, lt, le, past_next))
        ]

    -- what a run shows at this time is seen, where some run ends a slot then
    shown_seen : SomeSlotEnds setting limits.depart c.rank → (values : List Vector) (lines : Option Texts) (log : List (ℕ × ℕ)) (steps : ℕ) →
        length log ≤ limits.depart → ShowsAt setting c.rank values lines log steps → IsSeenAs gs c.rank values lines
    shown_seen ends values lines log steps short shown = elim are.whole [
      | inl (none, empty) ↦ absurd (some_own ends none)
      | inr (some, adds) ↦ elim shown.when [
        | inl (now, lines_are) ↦
            let is : IsSlotEnd c.rank values (state_of log steps) = subst (λ (n : ℕ). IsSlotEnd n values (state_of log steps)) now shown.slot in
            let seen = own_seen c are.own are.are c.rank values log steps is (listed_here values log steps short shown.run is) in
            record {
              slot_state = seen.slot_state;
              among = adds.kept seen.slot_state seen.among;
              time_is = seen.time_is;
              values_are = seen.values_are;
              lines_are = seen.lines_are ∙ sym lines_are;
            }
        | inr (earlier, past, lines_are) ↦
            let seen = still_seen adds shown.ended values log steps short shown.run shown.slot earlier past in
            record {
              slot_state = seen.slot_state;
              among = seen.among;
              time_is = seen.time_is;
              values_are = seen.values_are;
              lines_are = seen.lines_are ∙ sym lines_are;
            }
      ]
    ]

    value_seen : SomeSlotEnds setting limits.depart c.rank → (variable : ℕ) (value : Vector) →
        SomeRunShowsAt setting limits.depart c.rank variable value → (log : List (ℕ × ℕ)) × IsSeen (value_of variable) gs c.rank value log
    value_seen ends variable value shows =
        let seen = shown_seen ends shows.values shows.lines shows.log shows.steps shows.short shows.shown in (
          seen.slot_state.log.now,
          record {
            slot_state = seen.slot_state;
            among = seen.among;
            time_is = seen.time_is;
            value_is = ap (λ (v : List Vector). slice_get v variable) seen.values_are ∙ shows.value_is;
            log_is = refl;
          },
        )

    lines_seen : SomeSlotEnds setting limits.depart c.rank → (lines : Texts) → SomeRunPrintsAt setting limits.depart c.rank lines →
        (log : List (ℕ × ℕ)) × IsSeen printed_of gs c.rank lines log
    lines_seen ends lines prints =
        let seen = shown_seen ends prints.values (Some lines) prints.log prints.steps prints.short prints.shown in (
          seen.slot_state.log.now,
          record {
            slot_state = seen.slot_state;
            among = seen.among;
            time_is = seen.time_is;
            value_is = seen.lines_are;
            log_is = refl;
          },
        )

    -- so where two runs differ, there is a race
    pub differ_listed : (races : List Race) → AreAllRaces gs races → (variable : ℕ) →
        (differ : TwoRunsDifferAt setting limits.depart c.rank variable) → ListsValue races c.rank variable differ.one
    differ_listed races book variable differ =
        let one = value_seen differ.slot variable differ.one differ.shows_one in
        let other = value_seen differ.slot variable differ.other differ.shows_other in
        listed gs races book c.rank variable differ.one one.0 (record {
          one = differ.one;
          other = differ.other;
          log = one.0;
          other_log = other.0;
          sees_one = one.1;
          sees_other = other.1;
          differ = differ.differ;
        }) one.1

    pub print_listed : (races : List LineRace) → AreAllLineRaces gs races →
        (differ : TwoRunsPrintAt setting limits.depart c.rank) → ListsLines races c.rank differ.one
    print_listed races book differ =
        let one = lines_seen differ.slot differ.one differ.prints_one in
        let other = lines_seen differ.slot differ.other differ.prints_other in
        lines_listed gs races book c.rank differ.one one.0 (record {
          one = differ.one;
          other = differ.other;
          log = one.0;
          other_log = other.0;
          sees_one = one.1;
          sees_other = other.1;
          differ = differ.differ;
        }) one.1
