-- What a search for races tells, by what it was handed on.
use Rattle.std.specs.Prelude.{⊤}
use Rattle.std.proofs.Common.{◌≡◌, ◌≢◌, ◌⊎◌, ◌++◌, ℕ, ◌<◌, ◌≤◌, Bool, true, false, List, [], ◌∷◌, length, slice_get, None, Option, Some}
use Rattle.std.proofs.Common.{IfSome, refl, sym, ap, ◌∙◌, subst, inl, inr, arith, if◌then◌else◌}
use Rattle.std.specs.List.{Contains}
use Rattle.std.proofs.lemmas.Bool.{cases_lt}
use Rattle.std.proofs.lemmas.List.{length-map, map-append}
use Rattle.std.proofs.lemmas.List.Elements.{Contains-append_cases, Contains-append_left, Contains-append_right}
use Rattle.vbits.specs.Vectors.{Vector}
use Rattle.sched_core.specs.declared.end.End.{End}
use Rattle.std.proofs.lemmas.Option.{IfSome_then, same_Some}
use Rattle.std.specs.declared.cmp.Ordering.TheVariants.{Less, Equal}
use Rattle.std.proofs.lemmas.Cmp.{tied_itself}
use Rattle.sched_core.specs.Bags.{bag_cmp}
use Rattle.sched_core.specs.BagLaws.{bags_total}
use Rattle.basis.proofs.Lists.{at_contains, listed_place, place_within}
use Rattle.basis.specs.declared.memory.NoMemory.{NoMemory}
use Rattle.sched_core.specs.Replay.{EndsAfter}
use Rattle.sched_core.specs.Rules.{IsRun, stands}
use Rattle.statebook.specs.declared.limits.Limits.{Limits}
use Rattle.explore.specs.Ranked.{Closing, HandsOn, HandsOnAllTo, OfEach, WasHandedOn, pairs_of}
use Rattle.explore.specs.declared.rank_marks.FoundMark.{FoundMark}
use Rattle.explore.specs.declared.ranked_findings.RankedFindings.{RankedFindings}
use Rattle.explore.specs.declared.ranked_findings.RankedStatus.TheVariants.{Exhausted}
use Rattle.vmodel.specs.State.{State}
use Rattle.vmodel.specs.Choices.{choices}
use Rattle.vmodel.specs.Run.{Setting, rules_of, state_after, end_of}
use Rattle.vmodel.specs.RulesLaws.{lawful}
use Rattle.vmodel.specs.RunProgress.{width_is}
use Rattle.vmachine.specs.declared.machine_state.MachineState.{MachineState}
use Rattle.vmachine.specs.Machines.{Stands, machine_rules, rank_of}
use Rattle.racebook.specs.Races.{Race}
use Rattle.racebook.specs.LineRaces.{LineRace}
use Rattle.racebook.specs.InTime.{EachEnd, IsClosed, IsEndOfRun}
use Rattle.racebook.specs.Inner.{AreEndsOf, AreInTurn, AreSlotStates}
use Rattle.racebook.specs.declared.slot_state.SlotState.{SlotState}
use Rattle.racebook.proofs.FoundLemmas.{Alike, AllStand, HasVariables, MarkAlike, RunHere, RunThere, end_marked}
use Rattle.racebook.proofs.InTimeLemmas.{RankIsTime, ended_here, told_where_ended}
use Rattle.racebook.proofs.ListLemmas.{contains_at}
use Rattle.race_groups.specs.declared.collected.RaceGroups.{RaceGroups}
use Rattle.race_groups.specs.declared.group.Difference.{Difference}
use Rattle.race_groups.specs.declared.group.Difference.TheVariants.{Values, Lines, Ends}
use Rattle.race_groups.specs.declared.group.Group.{Group}
use Rattle.race_groups.specs.declared.group.Name.{Name}
use Rattle.race_groups.specs.declared.group.Scope.{Scope}
use Rattle.race_groups.specs.Found.{AllAreCounted, AllCutAlike, AllEndsAgree, EachGroup, EndsAgree, HasFirstDifference, HasItsCause}
use Rattle.race_groups.specs.Found.{HasLogOfFirst, IsDifference, IsNameInOne, IsClosedFrom, IsInTime, IsTimeOfRun, LacksOnlyNoCause, NoneDiffer, NoneIsCut}
use Rattle.race_groups.specs.Found.{NoneEnds, NoneIsMadeUp, TellsNoEnds, TwoCutsDiffer, TwoEndsDiffer, TwoRunsDifferIn, Verdict, cut_values_by}
use Rattle.race_groups.specs.Found.{name_of, verdict_by}
use Rattle.race_groups.specs.Inner.{AreCutsOf, AreCutsTold, AreGroupsOf, AreTold, CollectsGroups, IsEndOfSome, IsGroupOfEnds, IsLastSeen}
use Rattle.race_groups.specs.Inner.{IsShownBy, KeepsGroups, TellsEnds, GroupHead, compared_end, cut_values_in, group_head}
use Rattle.race_groups.specs.Inner.{group_heads, is_in_cut, traced_by, verdict_in}
use Rattle.race_groups.specs.Tracing.{Tracing}
use Rattle.race_groups.specs.declared.standing.Standing.{Standing}
use Rattle.race_groups.specs.Shown.{IsLineRaceAt, IsRaceAt, SomeSlotEnds, TwoRunsDifferAt, TwoRunsPrintAt}
use Rattle.race_groups.specs.Standing.{AreStatesShown}
use Rattle.race_groups.proofs.KeptLemmas.{told_all, told_each}
use Rattle.race_groups.proofs.StandingLemmas.{WidthAlike}
use Rattle.race_groups.proofs.ShownLemmas.{AfterAlike, IsIn, OneWay, differ_listed, line_race_shown, print_listed, race_shown}
use Rattle.race_groups.proofs.ShownLemmas.{time_of_state}
use Rattle.race_groups.proofs.ListLemmas.{at_most_one, no_image, nothing_in, to_map}

abbrev Pair : Type 0
Pair = MachineState × List (ℕ × ℕ)

-- what is compared of the end, where the machine tells this of it
abbrev verdict_at : Option End → State → Verdict
verdict_at end t = record { end = compared_end end; printed = if is_in_cut end then t.printed else None }

abbrev cut_values_at : Option End → State → List Vector
cut_values_at end t = if is_in_cut end then t.values else []

-- where a run has ended, it is what its end says
verdict_is : (t : State) → length (choices t) ≡ 0 → verdict_in t ≡ verdict_by (end_of t) t
verdict_is t ended = ap (λ (o : Option End). verdict_at o t) (told_where_ended t ended)

cut_values_are : (t : State) → length (choices t) ≡ 0 → cut_values_in t ≡ cut_values_by (end_of t) t
cut_values_are t ended = ap (λ (o : Option End). cut_values_at o t) (told_where_ended t ended)

-- two of one verdict, in which runs have ended, are alike
alike_ends : (t u : State) → length (choices t) ≡ 0 → length (choices u) ≡ 0 → verdict_in t ≡ verdict_in u → EndsAgree t u
alike_ends t u end end' same = sym (verdict_is t end) ∙ same ∙ verdict_is u end'

-- and the other way round
verdict_alike : (t u : State) → length (choices t) ≡ 0 → length (choices u) ≡ 0 → EndsAgree t u → verdict_in t ≡ verdict_in u
verdict_alike t u end end' same = verdict_is t end ∙ same ∙ sym (verdict_is u end')

-- a list that isn't empty has a first element
first_of : {A : Type 0} (xs : List A) → xs ≢ [] → (x : A) × (slice_get xs 0 ≡ Some x)
first_of [] some = absurd (some refl)
first_of (x ∷ xs) some = (x, refl)

-- causes are looked for within the limit of steps
abbrev pub tracing_in : Setting → Limits → Tracing
tracing_in setting limits = record { setting = setting; steps = limits.steps }

abbrev value_name : Race → Name
value_name race = record { time = race.time; variable = Some race.variable }

abbrev lines_name : LineRace → Name
lines_name race = record { time = race.time; variable = None }

-- where something is seen there is a mark
marks_of_own : (setting : Setting) (c : Closing MachineState) (own : List SlotState) → AreSlotStates setting c.marks own → own ≢ [] →
    0 < length c.marks
marks_of_own setting c own are some =
    let first = first_of own some in
    let o = are.each first.0 (contains_at own 0 first.0 first.1) in
    let w = place_within c.marks o.place o.found o.at in
    omega (arith, w)

marks_seen : (setting : Setting) (c : Closing MachineState) (standing : List Standing) (gs : List SlotState) →
    AreStatesShown setting c.rank c.marks standing gs → (g : SlotState) → Contains gs g → 0 < length c.marks
marks_seen setting c standing gs are g has = elim are.whole [
  | inl (none, empty) ↦ nothing_in g (subst (λ (l : List SlotState). Contains l g) empty has)
  | inr (some, adds) ↦ marks_of_own setting c are.own are.are some
]

module _ (setting : Setting) (alike : Alike setting) (all : AllStand setting) (there : RunThere setting) (here : RunHere setting)
    (mark_alike : MarkAlike setting) (wide : HasVariables setting) (ranked : RankIsTime setting) (widths : WidthAlike setting)
    (after : AfterAlike setting) (one_way : OneWay setting) (limits : Limits) (scope : Scope) (groups : List Group) (heads : List GroupHead) (ends : List (FoundMark MachineState)) (cut : Bool)
    (seen : Option ℕ) (refused : Option NoMemory) (findings : RankedFindings)
    (hands : HandsOn (machine_rules setting) limits (rank_of setting)
    (AreGroupsOf (tracing_in setting limits) scope groups heads (pairs_of ends) cut seen refused) findings) where
  abbrev from : ℕ
  from = scope.from

  abbrev state_of : List (ℕ × ℕ) → ℕ → State
  state_of log steps = state_after setting log steps

  -- ---- the time that was closed

  -- what has a mark is of such a time
  marked_by : (o : Option ℕ) → IsLastSeen o hands.closings → (i : ℕ) (c : Closing MachineState) → slice_get hands.closings i ≡ Some c →
      0 < length c.marks → IsClosed o c.rank
  marked_by None none i c at some = absurd (let e = ap length (none i c at) in omega (arith, e, some))
  marked_by (Some top) last i c at some = (
    top,
    refl,
    elim (cases_lt last.place i) [
      | inl behind ↦ absurd (let e = ap length (last.none_behind i c behind at) in omega (arith, e, some))
      | inr up_to ↦ elim (cases_lt i last.place) [
        | inl before ↦ (let lt = hands.rise i last.place c last.closing before at last.at in let is = last.rank_is in omega (arith, lt, is))
        | inr from_there ↦
            let here : i ≡ last.place = omega (arith, up_to, from_there) in
            let same : c ≡ last.closing = same_Some c last.closing (sym at ∙ ap (slice_get hands.closings) here ∙ last.at) in
            let ranks = ap (λ (d : Closing MachineState). d.rank) same in
            let is = last.rank_is in
            omega (arith, ranks, is)
      ]
    ],
  )

  marked_closed : (i : ℕ) (c : Closing MachineState) → slice_get hands.closings i ≡ Some c → 0 < length c.marks → IsClosed seen c.rank
  marked_closed = marked_by seen hands.collected.last_seen

  -- up to it all marks were handed on
  covered_by : (o : Option ℕ) → IsLastSeen o hands.closings →
      IfSome o (HandsOnAllTo (machine_rules setting) limits (rank_of setting) hands.closings)
  covered_by None none = tt
  covered_by (Some top) last =
      let l = hands.last last.place last.closing last.at in
      let covered : HandsOnAllTo (machine_rules setting) limits (rank_of setting) hands.closings l.0 =
      subst (λ (o : Option ℕ). IfSome o (HandsOnAllTo (machine_rules setting) limits (rank_of setting) hands.closings)) l.1 hands.covered in
      let le = l.2 in
      let is = last.rank_is in
      λ log steps short run mark below. covered log steps short run mark (omega (arith, below, le, is))

  covered_seen : IfSome seen (HandsOnAllTo (machine_rules setting) limits (rank_of setting) hands.closings)
  covered_seen = covered_by seen hands.collected.last_seen

  -- a run comes to it
  time_by : (o : Option ℕ) → IsLastSeen o hands.closings → IfSome o (IsTimeOfRun setting limits)
  time_by None none = tt
  time_by (Some top) last =
      let m = listed_place last.closing.marks 0 last.some in
      let f = hands.found last.place last.closing last.at 0 m.0 m.1 in
      let t = state_of m.0.1 f.steps in
      let st : Stands setting m.0.0 t = alike (stands (machine_rules setting) m.0.1 f.steps) m.0.0 t (all m.0.1 f.steps) f.at in
      record {
        log = m.0.1;
        steps = f.steps;
        run = there m.0.1 f.steps f.run;
        mark = sym (mark_alike m.0.0 t st) ∙ f.mark;
        time_is = sym (ranked m.0.0 t st) ∙ hands.ranks last.place last.closing last.at 0 m.0 m.1 ∙ last.rank_is;
        within = f.within;
        short = f.short;
      }

  pub time_of_run : IfSome seen (IsTimeOfRun setting limits)
  time_of_run = time_by seen hands.collected.last_seen

  -- ---- what was found is true

  shown_is : (i : ℕ) (c : Closing MachineState) → slice_get hands.closings i ≡ Some c → (d : Difference) →
      IsShownBy setting hands.closings i c d → IsDifference setting limits d
  shown_is i c at (Values race) shown = race_shown setting alike all there mark_alike wide ranked widths after one_way limits hands.closings
      hands.found hands.ranks hands.rise i c at race shown
  shown_is i c at (Lines race) shown = line_race_shown setting alike all there mark_alike wide ranked widths after one_way limits
      hands.closings hands.found hands.ranks hands.rise i c at race shown
  shown_is i c at (Ends list) none = absurd none

  pub told_first : (t : GroupHead) → Contains heads t → IsDifference setting limits t.first
  told_first t has = let o = hands.collected.firsts t has in shown_is o.place o.closing o.at t.first o.shown

  -- the time of what is seen was closed
  closed_here : (i : ℕ) (c : Closing MachineState) → slice_get hands.closings i ≡ Some c → from ≤ c.rank → (standing : List Standing)
      (gs : List SlotState) → AreStatesShown setting c.rank c.marks standing gs → (g : SlotState) → Contains gs g →
      IsClosedFrom from seen g.time
  closed_here i c at late standing gs are g has =
      let is = time_of_state setting alike all there mark_alike wide ranked widths after one_way limits hands.closings
      hands.found hands.ranks hands.rise i c at standing gs are g has in
      let some = marks_seen setting c standing gs are g has in
      let l = marked_closed i c at some in
      let le = l.2 in
      (omega (arith, late, is), (l.0, l.1, omega (arith, is, le)))

  shown_closed : (i : ℕ) (c : Closing MachineState) → slice_get hands.closings i ≡ Some c → from ≤ c.rank → (d : Difference) →
      IsShownBy setting hands.closings i c d → IsInTime setting from seen d
  shown_closed i c at late (Values race) shown =
      let p = at_contains shown.races race shown.has in
      let r = shown.are.all.each p.0 race p.1 in
      let two = r.two in
      let s = listed_place race.values 0 (omega (arith, two)) in
      let visible = r.seen 0 s.0 s.1 in
      subst (IsClosedFrom from seen) visible.time_is
      (closed_here i c at late shown.standing shown.are.slot_states shown.are.are visible.slot_state visible.among)
  shown_closed i c at late (Lines race) shown =
      let p = at_contains shown.races race shown.has in
      let r = shown.are.all.each p.0 race p.1 in
      let two = r.two in
      let s = listed_place race.sides 0 (omega (arith, two)) in
      let visible = r.seen 0 s.0 s.1 in
      subst (IsClosedFrom from seen) visible.time_is
      (closed_here i c at late shown.standing shown.are.slot_states shown.are.are visible.slot_state visible.among)
  shown_closed i c at late (Ends list) none = absurd none

  pub told_in_time : (t : GroupHead) → Contains heads t → IsInTime setting from seen t.first
  told_in_time t has = let o = hands.collected.firsts t has in shown_closed o.place o.closing o.at o.late t.first o.shown

  end_in_time : (end : Pair) → Contains (pairs_of ends) end → (t : State) → Stands setting end.0 t → IsClosedFrom from seen t.queue.time
  end_in_time end has t st =
      let o = hands.collected.ends end has in
      let m = at_contains o.closing.marks end o.among in
      let w = place_within o.closing.marks m.0 end m.1 in
      let rank_is = sym (ranked end.0 t st) ∙ hands.ranks o.place o.closing o.at m.0 end m.1 in
      let l = marked_closed o.place o.closing o.at (omega (arith, w)) in
      let late = o.late in
      let le = l.2 in
      (omega (arith, late, rank_is), (l.0, l.1, omega (arith, rank_is, le)))

  pub ends_in_time : (d : Difference) → TellsEnds ends d → IsInTime setting from seen d
  ends_in_time (Values race) tells = absurd tells
  ends_in_time (Lines race) tells = absurd tells
  ends_in_time (Ends list) tells = λ i end at t st. end_in_time end
      (subst (λ (l : List (FoundMark MachineState)). Contains (pairs_of l) end) tells (contains_at (pairs_of list.items) i end at)) t st

  -- what is told of a difference, of its name
  race_differs : (race : Race) → IsRaceAt setting limits race → TwoRunsDifferAt setting limits.depart race.time race.variable
  race_differs race is =
      let two = is.two in
      let s = listed_place race.values 0 (omega (arith, two)) in
      let t = listed_place race.values 1 (omega (arith, two)) in
      let one = is.seen 0 s.0 s.1 in
      let other = is.seen 1 t.0 t.1 in
      record {
        one = s.0.0;
        other = t.0.0;
        shows_one = record {
          log = s.0.1;
          steps = one.shown.steps;
          values = one.values;
          lines = one.lines;
          shown = one.shown.shown;
          value_is = one.value_is;
          short = one.shown.short;
        };
        shows_other = record {
          log = t.0.1;
          steps = other.shown.steps;
          values = other.values;
          lines = other.lines;
          shown = other.shown.shown;
          value_is = other.value_is;
          short = other.shown.short;
        };
        differ = is.differ 0 1 s.0 t.0 (omega arith) s.1 t.1;
        slot = is.slot;
      }

  lines_differ : (race : LineRace) → IsLineRaceAt setting limits race → TwoRunsPrintAt setting limits.depart race.time
  lines_differ race is =
      let two = is.two in
      let s = listed_place race.sides 0 (omega (arith, two)) in
      let t = listed_place race.sides 1 (omega (arith, two)) in
      let one = is.seen 0 s.0 s.1 in
      let other = is.seen 1 t.0 t.1 in
      let less = is.order 0 1 s.0 t.0 (omega arith) s.1 t.1 in
      record {
        one = s.0.0;
        other = t.0.0;
        prints_one = record {
          log = s.0.1;
          steps = one.shown.steps;
          values = one.values;
          shown = one.shown.shown;
          short = one.shown.short;
        };
        prints_other = record {
          log = t.0.1;
          steps = other.shown.steps;
          values = other.values;
          shown = other.shown.shown;
          short = other.shown.short;
        };
        slot = is.slot;
        differ = λ same.
            (let tied : bag_cmp s.0.0 t.0.0 ≡ Equal = ap (λ (x : List (List ℕ)). bag_cmp x t.0.0) same ∙ tied_itself bags_total t.0.0 in
            let bad : Less ≡ Equal = sym less ∙ tied in
            cc);
      }

  name_differs : (d : Difference) (name : Name) → IsDifference setting limits d → name_of d ≡ Some name →
      TwoRunsDifferIn setting limits.depart name.time name.variable
  name_differs (Values race) name is named = subst (λ (n : Name). TwoRunsDifferIn setting limits.depart n.time n.variable)
      (same_Some (value_name race) name named) (race_differs race is)
  name_differs (Lines race) name is named = subst (λ (n : Name). TwoRunsDifferIn setting limits.depart n.time n.variable)
      (same_Some (lines_name race) name named) (lines_differ race is)
  name_differs (Ends list) name is named = absurd (cc)

  name_closed : (d : Difference) (name : Name) → IsInTime setting from seen d → name_of d ≡ Some name → IsClosedFrom from seen name.time
  name_closed (Values race) name is named = subst (λ (n : Name). IsClosedFrom from seen n.time)
      (same_Some (value_name race) name named) is
  name_closed (Lines race) name is named = subst (λ (n : Name). IsClosedFrom from seen n.time)
      (same_Some (lines_name race) name named) is
  name_closed (Ends list) name is named = absurd (cc)

  in_turn : AreInTurn setting hands.closings
  in_turn = record {
    rise = hands.rise;
    times = λ i c at k found at'.
        (let f = hands.found i c at k found at' in
        let t = state_of found.1 f.steps in
        let st : Stands setting found.0 t = alike (stands (machine_rules setting) found.1 f.steps) found.0 t (all found.1 f.steps) f.at in
        (t, st, sym (ranked found.0 t st) ∙ hands.ranks i c at k found at'));
  }

  -- what is summed up is no more than that
  none_made_up : (Within : ℕ → Type 0) → ((time : ℕ) → IsClosedFrom from seen time → Within time) → refused ≡ None →
      NoneIsMadeUp setting limits groups hands.collected.all.rests Within
  none_made_up Within whole sound = record {
    differ = λ i k name is.
        (let has = contains_at (hands.collected.all.rests i) k name is.named in
        let by = hands.collected.all.only sound name (i, record { group = is.group; at = is.at; has = inr has }) in (
          whole name.time (name_closed by.difference name (shown_closed by.place by.closing by.at by.late by.difference by.shown) by.is),
          name_differs by.difference name (shown_is by.place by.closing by.at by.difference by.shown) by.is,
        ));
    named_once = hands.collected.all.once sound in_turn;
    caused = λ i k name is.
        (let among = contains_at (hands.collected.all.rests i) k name is.named in
        let (d, by, so) = hands.collected.all.caused sound is.group.cause name
        (record { place = i; group = is.group; at = is.at; under = refl; among = among }) in
        record {
          difference = d;
          named = so.named;
          is = shown_is by.place by.closing by.at d by.shown;
          log = so.log;
          of = so.of;
          same = so.same;
        });
  }

  -- the end of a closing is one of a run
  end_of_some : (end : Pair) → IsEndOfSome setting from hands.closings end → IsEndOfRun setting limits end
  end_of_some end o =
      let m = at_contains o.closing.marks end o.among in
      let f = hands.found o.place o.closing o.at m.0 end m.1 in
      let t = state_of end.1 f.steps in
      let st : Stands setting end.0 t = alike (stands (machine_rules setting) end.1 f.steps) end.0 t (all end.1 f.steps) f.at in
      record {
        steps = f.steps;
        ends = record { run = there end.1 f.steps f.run; end = width_is setting t ∙ ended_here t (o.ended t st); names = f.names };
        stands = st;
        within = f.within;
        short = f.short;
      }

  -- a kept end is one
  end_is : (end : Pair) → Contains (pairs_of ends) end → IsEndOfRun setting limits end
  end_is end has = end_of_some end (hands.collected.ends end has)

  no_choice_left : (log : List (ℕ × ℕ)) (steps : ℕ) → EndsAfter (rules_of setting) log steps → length (choices (state_of log steps)) ≡ 0
  no_choice_left log steps after = sym (width_is setting (state_of log steps)) ∙ after.end

  ends_differ : 1 < length (pairs_of ends) → EachEnd (IsEndOfRun setting limits) (pairs_of ends) × TwoEndsDiffer setting (pairs_of ends)
  ends_differ two =
      let one = listed_place (pairs_of ends) 0 (omega arith) in
      let other = listed_place (pairs_of ends) 1 (omega arith) in
      let has = contains_at (pairs_of ends) 0 one.0 one.1 in
      let has' = contains_at (pairs_of ends) 1 other.0 other.1 in
      let e = end_is one.0 has in
      let e' = end_is other.0 has' in (
        λ i end at. end_is end (contains_at (pairs_of ends) i end at),
        record {
          one = one.0;
          other = other.0;
          has_one = has;
          has_other = has';
          state = state_of one.0.1 e.steps;
          other_state = state_of other.0.1 e'.steps;
          stands = e.stands;
          other_stands = e'.stands;
          differ = λ same. hands.collected.unlike one.0 other.0 one.1 other.1 (state_of one.0.1 e.steps)
              (state_of other.0.1 e'.steps) e.stands e'.stands
              (verdict_alike (state_of one.0.1 e.steps) (state_of other.0.1 e'.steps) (no_choice_left one.0.1 e.steps e.ends)
              (no_choice_left other.0.1 e'.steps e'.ends) same);
        },
      )

  pub told_ends : (d : Difference) → TellsEnds ends d → 1 < length (pairs_of ends) → IsDifference setting limits d
  told_ends (Values race) tells two = absurd tells
  told_ends (Lines race) tells two = absurd tells
  told_ends (Ends list) tells two =
      subst (λ (l : List (FoundMark MachineState)). EachEnd (IsEndOfRun setting limits) (pairs_of l) × TwoEndsDiffer setting (pairs_of l))
      (sym tells) (ends_differ two)

  abbrev AreCuts : List (FoundMark MachineState) → Type 0
  AreCuts cut_ends = AreCutsOf setting from (pairs_of ends) (pairs_of cut_ends) hands.closings

  abbrev both_of : List (FoundMark MachineState) → List Pair
  both_of cut_ends = pairs_of ends ++ pairs_of cut_ends

  each_cut : (cut_ends : List (FoundMark MachineState)) → AreCuts cut_ends → EachEnd (IsEndOfRun setting limits) (both_of cut_ends)
  each_cut cut_ends cuts i end at =
      elim (Contains-append_cases (pairs_of ends) (pairs_of cut_ends) end (contains_at (both_of cut_ends) i end at)) [
        | inl kept ↦ end_is end kept
        | inr cut ↦ end_of_some end (cuts.each end cut)
      ]

  -- of the first end and the first cut end
  two_cuts : (cut_ends : List (FoundMark MachineState)) → AreCuts cut_ends → (one other : Pair) → slice_get (pairs_of ends) 0 ≡ Some one →
      slice_get (pairs_of cut_ends) 0 ≡ Some other → TwoCutsDiffer setting (both_of cut_ends)
  two_cuts cut_ends cuts one other at at' =
      let has = contains_at (pairs_of ends) 0 one at in
      let has' = contains_at (pairs_of cut_ends) 0 other at' in
      let e = end_is one has in
      let e' = end_of_some other (cuts.each other has') in
      let t = state_of one.1 e.steps in
      let u = state_of other.1 e'.steps in
      let ended = no_choice_left one.1 e.steps e.ends in
      let ended' = no_choice_left other.1 e'.steps e'.ends in
      record {
        one = one;
        other = other;
        has_one = Contains-append_left (pairs_of ends) (pairs_of cut_ends) one has;
        has_other = Contains-append_right (pairs_of ends) (pairs_of cut_ends) other has';
        state = t;
        other_state = u;
        stands = e.stands;
        other_stands = e'.stands;
        agree = alike_ends t u ended ended' (cuts.kept.alike one other at at' t u e.stands e'.stands);
        differ = λ same. cuts.kept.unlike one other at at' t u e.stands e'.stands
            (cut_values_are t ended ∙ same ∙ sym (cut_values_are u ended'));
      }

  pub told_cuts : (cut_ends told : List (FoundMark MachineState)) → AreCuts cut_ends → told ≡ ends ++ cut_ends →
      length (pairs_of ends) ≤ 1 → cut_ends ≢ [] →
      EachEnd (IsEndOfRun setting limits) (pairs_of told) × TwoCutsDiffer setting (pairs_of told)
  told_cuts cut_ends told cuts is few some =
      let list : pairs_of told ≡ both_of cut_ends = ap pairs_of is
      ∙ map-append (λ (f : FoundMark MachineState). (f.state, f.log)) ends cut_ends in
      let other = first_of (pairs_of cut_ends) (λ none. some (no_image (λ (f : FoundMark MachineState). (f.state, f.log)) cut_ends none)) in
      let two : TwoCutsDiffer setting (both_of cut_ends) = elim (at_most_one (pairs_of ends) few) [
        | inl bare ↦ absurd (some (no_image (λ (f : FoundMark MachineState). (f.state, f.log)) cut_ends (cuts.kept.bare bare)))
        | inr one ↦ two_cuts cut_ends cuts one.0 other.0 (ap (λ (l : List Pair). slice_get l 0) one.1) other.1
      ] in
      subst (λ (l : List Pair). EachEnd (IsEndOfRun setting limits) l × TwoCutsDiffer setting l) (sym list)
      (each_cut cut_ends cuts, two)

  -- ---- where all marks of some times were handed on

  abbrev Unended : Type 0
  Unended = OfEach hands.closings (λ c. AreEndsOf setting c.marks [])

  module _ (Within : ℕ → Type 0)
      (handed : (log : List (ℕ × ℕ)) (steps : ℕ) → length log ≤ limits.depart → IsRun (rules_of setting) log steps →
      (machine_rules setting).mark (stands (machine_rules setting) log steps) ≡ true →
      (time : ℕ) → Within time → (state_after setting log steps).queue.time ≤ time → WasHandedOn (machine_rules setting) hands.closings
      (stands (machine_rules setting) log steps) (length log)) where
    is_in : (log : List (ℕ × ℕ)) (steps : ℕ) → WasHandedOn (machine_rules setting) hands.closings (stands (machine_rules setting) log steps)
        (length log) → IsIn setting hands.closings log steps
    is_in log steps (i, c, at, l) =
        let t = state_after setting log steps in
        let st : Stands setting l.found.0 t = alike (stands (machine_rules setting) log steps) l.found.0 t (all log steps) l.same in
        record {
          place = i;
          closing = c;
          at = at;
          listed = l;
          stands_so = st;
          rank_is = sym (hands.ranks i c at l.place l.found l.at) ∙ ranked l.found.0 t st;
        }

    -- up to one of these times
    in_one : (time : ℕ) → Within time → (log : List (ℕ × ℕ)) (steps : ℕ) → length log ≤ limits.depart → IsRun (rules_of setting) log steps →
        (machine_rules setting).mark (stands (machine_rules setting) log steps) ≡ true → (state_after setting log steps).queue.time ≤ time →
        IsIn setting hands.closings log steps
    in_one time within log steps short run mark le = is_in log steps (handed log steps short run mark time within le)

    -- ---- ends

    end_mark : (log : List (ℕ × ℕ)) (steps : ℕ) → EndsAfter (rules_of setting) log steps → (machine_rules setting).mark
        (stands (machine_rules setting) log steps) ≡ true
    end_mark log steps after =
        mark_alike (stands (machine_rules setting) log steps) (state_after setting log steps) (all log steps) ∙ (lawful setting).end_is_mark
        (state_after setting log steps) after.end

    end_in_one : (log : List (ℕ × ℕ)) (steps : ℕ) → length log ≤ limits.depart → EndsAfter (rules_of setting) log steps →
        Within (state_after setting log steps).queue.time → IsIn setting hands.closings log steps
    end_in_one log steps short after within = in_one (state_after setting log steps).queue.time within log steps short after.run
        (end_mark log steps after) (omega arith)

    -- it is one of the ends of its closing
    among_ends : (log : List (ℕ × ℕ)) (steps : ℕ) → EndsAfter (rules_of setting) log steps → (h : IsIn setting hands.closings log steps) →
        (list : List Pair) → AreEndsOf setting h.closing.marks list → Contains list h.listed.found
    among_ends log steps after h list are =
        elim (are.whole h.listed.found (contains_at h.closing.marks h.listed.place h.listed.found h.listed.at)) [
          | inl kept ↦ kept
          | inr on ↦ absurd (let none = on (state_after setting log steps) h.stands_so in let is = told_where_ended
              (state_after setting log steps) (no_choice_left log steps after) in cc)
        ]

    -- where no run is said to be cut, none is
    pub none_cut : cut ≡ false → NoneIsCut setting limits.depart Within
    none_cut none = λ log steps short after within.
        let t = state_after setting log steps in
        let h = end_in_one log steps short after within in
        let u = hands.collected.uncut none h.place h.closing h.at in
        u.2 h.listed.found (among_ends log steps after h u.0 u.1) t (end_of t) h.stands_so
        (told_where_ended t (no_choice_left log steps after))

    -- nor does any end, where no closing has an end
    pub none_ends : Unended → NoneEnds setting limits.depart Within
    none_ends unended log steps short after within =
        let h = end_in_one log steps short after within in
        nothing_in h.listed.found (among_ends log steps after h [] (unended h.place h.closing h.at))

    -- the closing of a time at which a slot ends
    slot_in_one : (time : ℕ) → Within time → (ends : SomeSlotEnds setting limits.depart time) → IsIn setting hands.closings ends.log ends.steps
    slot_in_one time within ends =
        let e = ends.slot.time_is in
        in_one time within ends.log ends.steps ends.short ends.run
        (end_marked setting all mark_alike time ends.values ends.log ends.steps ends.slot) (omega (arith, e))

    module _ (after_from : (time : ℕ) → Within time → from ≤ time) where
      all_values : (time variable : ℕ) → Within time → TwoRunsDifferAt setting limits.depart time variable →
          IsNameInOne groups hands.collected.all.rests (record { time = time; variable = Some variable })
      all_values time variable within differ =
          let h = slot_in_one time within differ.slot in
          let rank_is = h.rank_is ∙ differ.slot.slot.time_is in
          let late : from ≤ h.closing.rank = subst (λ (n : ℕ). from ≤ n) (sym rank_is) (after_from time within) in
          let shows = hands.collected.all.shown h.place h.closing h.at late in
          let l = differ_listed setting alike all there mark_alike wide ranked widths after one_way limits hands.closings
          hands.found hands.ranks hands.rise h.place h.closing h.at shows.standing shows.stand shows.values.slot_states shows.values.are
          (λ log steps short run mark le. in_one h.closing.rank (subst Within (sym rank_is) within) log steps short run mark le)
          shows.races shows.values.all variable (subst (λ (n : ℕ). TwoRunsDifferAt setting limits.depart n variable) (sym rank_is) differ) in
          subst (λ (t : ℕ). IsNameInOne groups hands.collected.all.rests (record { time = t; variable = Some variable }))
          (l.time_is ∙ rank_is)
          (subst (λ (v : ℕ). IsNameInOne groups hands.collected.all.rests (record { time = l.race.time; variable = Some v })) l.variable_is
          (shows.each l.race (contains_at shows.races l.place l.race l.at)))

      all_lines : (time : ℕ) → Within time → TwoRunsPrintAt setting limits.depart time → IsNameInOne groups hands.collected.all.rests
          (record { time = time; variable = None })
      all_lines time within differ =
          let h = slot_in_one time within differ.slot in
          let rank_is = h.rank_is ∙ differ.slot.slot.time_is in
          let late : from ≤ h.closing.rank = subst (λ (n : ℕ). from ≤ n) (sym rank_is) (after_from time within) in
          let shows = hands.collected.all.shown h.place h.closing h.at late in
          let l = print_listed setting alike all there mark_alike wide ranked widths after one_way limits hands.closings
          hands.found hands.ranks hands.rise h.place h.closing h.at shows.standing shows.stand shows.lines.slot_states shows.lines.are
          (λ log steps short run mark le. in_one h.closing.rank (subst Within (sym rank_is) within) log steps short run mark le)
          shows.line_races shows.lines.all (subst (TwoRunsPrintAt setting limits.depart) (sym rank_is) differ) in
          subst (λ (t : ℕ). IsNameInOne groups hands.collected.all.rests (record { time = t; variable = None })) (l.time_is ∙ rank_is)
          (shows.each_line l.race (contains_at shows.line_races l.place l.race l.at))

      pub all_counted : ((time : ℕ) → IsClosedFrom from seen time → Within time) →
          AllAreCounted setting limits scope.names groups refused Within
      all_counted whole = record {
        rests = hands.collected.all.rests;
        summaries = hands.collected.all.summaries;
        values = all_values;
        lines = all_lines;
        none_made_up = none_made_up Within whole;
      }

      late_enough : (log : List (ℕ × ℕ)) (steps : ℕ) → Within (state_after setting log steps).queue.time →
          (h : IsIn setting hands.closings log steps) → from ≤ h.closing.rank
      late_enough log steps within h = subst (λ (n : ℕ). from ≤ n) (sym h.rank_is)
          (after_from (state_after setting log steps).queue.time within)

      -- all are alike the one that is kept
      like_one : (one : Pair) → pairs_of ends ≡ one ∷ [] → (u : State) → Stands setting one.0 u → (log : List (ℕ × ℕ)) (steps : ℕ) →
          length log ≤ limits.depart → EndsAfter (rules_of setting) log steps →
          Within (state_after setting log steps).queue.time → verdict_in (state_after setting log steps) ≡ verdict_in u
      like_one one is u st log steps short after within =
          let h = end_in_one log steps short after within in
          let a = hands.collected.alike one is h.place h.closing h.at (late_enough log steps within h) in
          a.2 h.listed.found (among_ends log steps after h a.0 a.1) (state_after setting log steps) u h.stands_so st

      no_end_at_all : pairs_of ends ≡ [] → (log : List (ℕ × ℕ)) (steps : ℕ) → length log ≤ limits.depart →
          EndsAfter (rules_of setting) log steps → Within (state_after setting log steps).queue.time → ⊥
      no_end_at_all none log steps short after within =
          let h = end_in_one log steps short after within in
          let a = hands.collected.no_end none h.place h.closing h.at (late_enough log steps within h) in
          nothing_in h.listed.found (among_ends log steps after h [] a)

      pub all_ends : length (pairs_of ends) ≤ 1 → AllEndsAgree setting limits.depart Within
      all_ends few log other steps others short short' after after' within within' = elim (at_most_one (pairs_of ends) few) [
        | inl none ↦ absurd (no_end_at_all none log steps short after within)
        | inr one ↦
            let e = end_is one.0 (subst (λ (l : List Pair). Contains l one.0) (sym one.1) (contains_at (one.0 ∷ []) 0 one.0 refl)) in
            let u = state_after setting one.0.1 e.steps in
            let s = like_one one.0 one.1 u e.stands log steps short after within in
            let s' = like_one one.0 one.1 u e.stands other others short' after' within' in
            alike_ends (state_after setting log steps) (state_after setting other others) (no_choice_left log steps after)
            (no_choice_left other others after') (s ∙ sym s')
      ]

      -- where no cut end is kept, all leave the values of the one that is
      cut_like : (cut_ends : List (FoundMark MachineState)) → AreCuts cut_ends → cut_ends ≡ [] → (one : Pair) → pairs_of ends ≡ one ∷ [] →
          (u : State) → Stands setting one.0 u → (log : List (ℕ × ℕ)) (steps : ℕ) → length log ≤ limits.depart →
          EndsAfter (rules_of setting) log steps → Within (state_after setting log steps).queue.time →
          cut_values_in (state_after setting log steps) ≡ cut_values_in u
      cut_like cut_ends cuts none one is u st log steps short after within =
          let h = end_in_one log steps short after within in
          let a = cuts.none (ap pairs_of none) one (ap (λ (l : List Pair). slice_get l 0) is) h.place h.closing h.at
          (late_enough log steps within h) in
          a.2 h.listed.found (among_ends log steps after h a.0 a.1) (state_after setting log steps) u h.stands_so st
          (like_one one is u st log steps short after within)

      pub all_cut : length (pairs_of ends) ≤ 1 → (cut_ends : List (FoundMark MachineState)) → AreCuts cut_ends → cut_ends ≡ [] →
          AllCutAlike setting limits.depart Within
      all_cut few cut_ends cuts bare log other steps others short short' after after' within within' = elim (at_most_one (pairs_of ends) few) [
        | inl none ↦ absurd (no_end_at_all none log steps short after within)
        | inr one ↦
            let e = end_is one.0 (subst (λ (l : List Pair). Contains l one.0) (sym one.1) (contains_at (one.0 ∷ []) 0 one.0 refl)) in
            let u = state_after setting one.0.1 e.steps in
            let s = cut_like cut_ends cuts bare one.0 one.1 u e.stands log steps short after within in
            let s' = cut_like cut_ends cuts bare one.0 one.1 u e.stands other others short' after' within' in
            sym (cut_values_are (state_after setting log steps) (no_choice_left log steps after)) ∙ s ∙ sym s'
            ∙ cut_values_are (state_after setting other others) (no_choice_left other others after')
      ]

      none_in : groups ≡ [] → (name : Name) → IsNameInOne groups hands.collected.all.rests name → ⊥
      none_in none name is = absurd (let at = ap (λ (l : List Group). slice_get l is.0) (sym none) ∙ is.1.at in cc)

      pub none_differ : groups ≡ [] → length (pairs_of ends) ≤ 1 → NoneDiffer setting limits.depart Within
      none_differ none few = record {
        values = λ time variable within differ. none_in none (record { time = time; variable = Some variable })
            (all_values time variable within differ);
        lines = λ time within differ. none_in none (record { time = time; variable = None }) (all_lines time within differ);
        ends = all_ends few;
      }

  -- ---- the clauses

  abbrev AllTo : ℕ → Type 0
  AllTo top = HandsOnAllTo (machine_rules setting) limits (rank_of setting) hands.closings top

  handed_to : (top : ℕ) → AllTo top → (log : List (ℕ × ℕ)) (steps : ℕ) → length log ≤ limits.depart → IsRun (rules_of setting) log steps →
      (machine_rules setting).mark (stands (machine_rules setting) log steps) ≡ true →
      (time : ℕ) → time ≤ top → (state_after setting log steps).queue.time ≤ time → WasHandedOn (machine_rules setting) hands.closings
      (stands (machine_rules setting) log steps) (length log)
  handed_to top covered log steps short run mark time below le =
      let at = ranked (stands (machine_rules setting) log steps) (state_after setting log steps) (all log steps) in
      covered log steps short (here log steps run) mark (omega (arith, at, below, le))

  abbrev To : ℕ → ℕ → Type 0
  To top time = (from ≤ time) × (time ≤ top)

  pub told_to : groups ≡ [] → length (pairs_of ends) ≤ 1 →
      IfSome seen (λ top. NoneDiffer setting limits.depart (λ time. (from ≤ time) × (time ≤ top)))
  told_to none few = IfSome_then seen covered_seen (λ top covered.
      none_differ (To top) (λ log steps short run mark time within le. handed_to top covered log steps short run mark time within.1 le)
      (λ time within. within.0) none few)

  pub told_throughout : groups ≡ [] → length (pairs_of ends) ≤ 1 → findings.status ≡ Exhausted →
      NoneDiffer setting limits.depart (λ time. from ≤ time)
  told_throughout none few e =
      none_differ (λ time. from ≤ time) (λ log steps short run mark time within le. hands.exhausted e log steps short (here log steps run) mark)
      (λ time within. within) none few

  pub ends_to : length (pairs_of ends) ≤ 1 → IfSome seen (λ top. AllEndsAgree setting limits.depart (To top))
  ends_to few = IfSome_then seen covered_seen (λ top covered.
      all_ends (To top) (λ log steps short run mark time within le. handed_to top covered log steps short run mark time within.1 le)
      (λ time within. within.0) few)

  pub ends_throughout : length (pairs_of ends) ≤ 1 → findings.status ≡ Exhausted → AllEndsAgree setting limits.depart (λ time. from ≤ time)
  ends_throughout few e =
      all_ends (λ time. from ≤ time) (λ log steps short run mark time within le. hands.exhausted e log steps short (here log steps run) mark)
      (λ time within. within) few

  pub cut_values_to : length (pairs_of ends) ≤ 1 → (cut_ends : List (FoundMark MachineState)) → AreCuts cut_ends → cut_ends ≡ [] →
      IfSome seen (λ top. AllCutAlike setting limits.depart (To top))
  cut_values_to few cut_ends cuts none = IfSome_then seen covered_seen (λ top covered.
      all_cut (To top) (λ log steps short run mark time within le. handed_to top covered log steps short run mark time within.1 le)
      (λ time within. within.0) few cut_ends cuts none)

  pub cut_values_throughout : length (pairs_of ends) ≤ 1 → (cut_ends : List (FoundMark MachineState)) → AreCuts cut_ends → cut_ends ≡ [] →
      findings.status ≡ Exhausted → AllCutAlike setting limits.depart (λ time. from ≤ time)
  cut_values_throughout few cut_ends cuts none e =
      all_cut (λ time. from ≤ time) (λ log steps short run mark time within le. hands.exhausted e log steps short (here log steps run) mark)
      (λ time within. within) few cut_ends cuts none

  -- what was closed was handed on
  handed_closed : (log : List (ℕ × ℕ)) (steps : ℕ) → length log ≤ limits.depart → IsRun (rules_of setting) log steps →
      (machine_rules setting).mark (stands (machine_rules setting) log steps) ≡ true →
      (time : ℕ) → IsClosed seen time → (state_after setting log steps).queue.time ≤ time →
      WasHandedOn (machine_rules setting) hands.closings (stands (machine_rules setting) log steps) (length log)
  handed_closed log steps short run mark time (top, is, below) le =
      handed_to top
      (subst (λ (o : Option ℕ). IfSome o (HandsOnAllTo (machine_rules setting) limits (rank_of setting) hands.closings)) is covered_seen)
      log steps short run mark time below le

  pub all_to : AllAreCounted setting limits scope.names groups refused (IsClosedFrom from seen)
  all_to = all_counted (IsClosedFrom from seen)
      (λ log steps short run mark time within le. handed_closed log steps short run mark time within.1 le) (λ time within. within.0)
      (λ time within. within)

  pub all_throughout : findings.status ≡ Exhausted → AllAreCounted setting limits scope.names groups refused (λ time. from ≤ time)
  all_throughout e = all_counted (λ time. from ≤ time)
      (λ log steps short run mark time within le. hands.exhausted e log steps short (here log steps run) mark) (λ time within. within)
      (λ time within. within.0)

  -- the time at which a run ends is one that was closed, or one before
  pub ends_closed : findings.status ≡ Exhausted → (log : List (ℕ × ℕ)) (steps : ℕ) → length log ≤ limits.depart →
      EndsAfter (rules_of setting) log steps →
      (top : ℕ) × (seen ≡ Some top) × ((state_after setting log steps).queue.time ≤ top)
  ends_closed e log steps short after =
      let Any : ℕ → Type 0 = λ time. ⊤ in
      let given : (l : List (ℕ × ℕ)) (n : ℕ) → length l ≤ limits.depart → IsRun (rules_of setting) l n → (machine_rules setting).mark
      (stands (machine_rules setting) l n) ≡ true → (time : ℕ) → Any time →
      (state_after setting l n).queue.time ≤ time → WasHandedOn (machine_rules setting) hands.closings (stands (machine_rules setting) l n)
      (length l) = λ l n less run mark time within le. hands.exhausted e l n less (here l n run) mark in
      let h = end_in_one Any given log steps short after tt in
      let w = place_within h.closing.marks h.listed.place h.listed.found h.listed.at in
      let last = marked_closed h.place h.closing h.at (omega (arith, w)) in
      let rank_is = h.rank_is in
      let le = last.2 in
      (last.0, last.1, omega (arith, rank_is, le))

  pub cuts_to : cut ≡ false → IfSome seen (λ top. NoneIsCut setting limits.depart (λ time. time ≤ top))
  cuts_to none = IfSome_then seen covered_seen (λ top covered. none_cut (λ time. time ≤ top)
      (λ log steps short run mark time within le. handed_to top covered log steps short run mark time within le) none)

  pub cuts_throughout : cut ≡ false → findings.status ≡ Exhausted → NoneIsCut setting limits.depart (λ time. ⊤)
  cuts_throughout none e = none_cut (λ time. ⊤)
      (λ log steps short run mark time within le. hands.exhausted e log steps short (here log steps run) mark) none

  pub no_end_to : Unended → IfSome seen (λ top. NoneEnds setting limits.depart (λ time. time ≤ top))
  no_end_to unended = IfSome_then seen covered_seen (λ top covered. none_ends (λ time. time ≤ top)
      (λ log steps short run mark time within le. handed_to top covered log steps short run mark time within le) unended)

  pub no_end_throughout : Unended → findings.status ≡ Exhausted → NoneEnds setting limits.depart (λ time. ⊤)
  no_end_throughout unended e = none_ends (λ time. ⊤)
      (λ log steps short run mark time within le. hands.exhausted e log steps short (here log steps run) mark) unended

-- what was handed on has made this of what is kept
pub kept_so : (setting : Setting) (limits : Limits) (scope : Scope) (first now : RaceGroups) (findings : RankedFindings) →
    traced_by first ≡ tracing_in setting limits → first.scope ≡ scope → KeepsGroups (tracing_in setting limits) scope first [] →
    (hands : HandsOn (machine_rules setting) limits (rank_of setting) (λ closings. CollectsGroups first closings now) findings) →
    KeepsGroups (tracing_in setting limits) scope now hands.closings
kept_so setting limits scope first now findings is same none hands =
    let P : Tracing → Scope → Type 0 = λ t f. KeepsGroups t f first [] → KeepsGroups t f now hands.closings in
    let kept : P (traced_by first) first.scope = hands.collected.kept [] in
    subst (λ (t : Tracing). P t scope) is (subst (P (traced_by first)) same kept) none

-- and of the groups that are told of it
unfoldable pub handed_so : (setting : Setting) (limits : Limits) (scope : Scope) (first now : RaceGroups) (findings : RankedFindings)
    (groups : List Group) → AreTold (tracing_in setting limits) now groups →
    traced_by first ≡ tracing_in setting limits → first.scope ≡ scope → KeepsGroups (tracing_in setting limits) scope first [] →
    HandsOn (machine_rules setting) limits (rank_of setting) (λ closings. CollectsGroups first closings now) findings →
    HandsOn (machine_rules setting) limits (rank_of setting) (AreGroupsOf (tracing_in setting limits) scope groups
    (group_heads now.groups.items) (pairs_of now.ends.items) now.cut_runs now.seen now.refused) findings
handed_so setting limits scope first now findings groups tells is same none hands =
    let kept = (kept_so setting limits scope first now findings is same none hands).groups in
    record {
      closings = hands.closings;
      collected = record {
        causes = kept.causes;
        firsts = kept.firsts;
        all = told_all (tracing_in setting limits) scope now groups hands.closings tells kept.all;
        ends = kept.ends;
        no_end = kept.no_end;
        alike = kept.alike;
        unlike = kept.unlike;
        uncut = kept.uncut;
        last_seen = kept.last_seen;
      };
      found = hands.found;
      ranks = hands.ranks;
      rise = hands.rise;
      last = hands.last;
      fewest = hands.fewest;
      covered = hands.covered;
      exhausted = hands.exhausted;
    }

-- all that is told
pub record IsTold (setting : Setting) (limits : Limits) (scope : Scope) (groups : List Group) (told : List (FoundMark MachineState))
    (ended cut : Bool) (seen : Option ℕ) (refused : Option NoMemory) (findings : RankedFindings) : Type 0 where
  pub cause : EachGroup (HasItsCause setting) groups
  pub no_cause : EachGroup (LacksOnlyNoCause setting limits) groups
  pub first : EachGroup (HasFirstDifference setting limits) groups
  pub log : EachGroup HasLogOfFirst groups
  pub all : AllAreCounted setting limits scope.names groups refused (IsClosedFrom scope.from seen)
  pub all_exhausted : findings.status ≡ Exhausted → AllAreCounted setting limits scope.names groups refused
      (λ time. scope.from ≤ time)
  pub none : groups ≡ [] → IfSome seen (λ top. NoneDiffer setting limits.depart (λ time. (scope.from ≤ time) × (time ≤ top)))
  pub none_exhausted : groups ≡ [] → findings.status ≡ Exhausted → NoneDiffer setting limits.depart (λ time. scope.from ≤ time)
  pub ends : TellsNoEnds groups → IfSome seen (λ top. AllEndsAgree setting limits.depart (λ time. (scope.from ≤ time) × (time ≤ top)))
  pub ends_exhausted : TellsNoEnds groups → findings.status ≡ Exhausted →
      AllEndsAgree setting limits.depart (λ time. scope.from ≤ time)
  pub cut_ends : (told ≡ []) ⊎ (EachEnd (IsEndOfRun setting limits) (pairs_of told) × TwoCutsDiffer setting (pairs_of told))
  pub no_cut_ends : TellsNoEnds groups → told ≡ [] →
      IfSome seen (λ top. AllCutAlike setting limits.depart (λ time. (scope.from ≤ time) × (time ≤ top)))
  pub no_cut_ends_exhausted : TellsNoEnds groups → told ≡ [] → findings.status ≡ Exhausted →
      AllCutAlike setting limits.depart (λ time. scope.from ≤ time)
  pub in_time : EachGroup (λ group. IsInTime setting scope.from seen group.first) groups
  pub closed : findings.status ≡ Exhausted → (log : List (ℕ × ℕ)) (steps : ℕ) → length log ≤ limits.depart →
      EndsAfter (rules_of setting) log steps →
      (top : ℕ) × (seen ≡ Some top) × ((state_after setting log steps).queue.time ≤ top)
  pub closed_time : IfSome seen (IsTimeOfRun setting limits)
  pub no_end : ended ≡ false → IfSome seen (λ top. NoneEnds setting limits.depart (λ time. time ≤ top))
  pub no_end_exhausted : ended ≡ false → findings.status ≡ Exhausted → NoneEnds setting limits.depart (λ time. ⊤)
  pub cuts : cut ≡ false → IfSome seen (λ top. NoneIsCut setting limits.depart (λ time. time ≤ top))
  pub cuts_exhausted : cut ≡ false → findings.status ≡ Exhausted → NoneIsCut setting limits.depart (λ time. ⊤)

module _ (setting : Setting) (alike : Alike setting) (all : AllStand setting) (there : RunThere setting) (here : RunHere setting)
    (mark_alike : MarkAlike setting) (wide : HasVariables setting) (ranked : RankIsTime setting) (widths : WidthAlike setting)
    (after : AfterAlike setting) (one_way : OneWay setting) (limits : Limits) (scope : Scope) (kept : RaceGroups) (findings : RankedFindings)
    (groups : List Group) (tells : AreTold (tracing_in setting limits) kept groups)
    (hands : HandsOn (machine_rules setting) limits (rank_of setting) (AreGroupsOf (tracing_in setting limits) scope groups
    (group_heads kept.groups.items) (pairs_of kept.ends.items) kept.cut_runs kept.seen kept.refused) findings)
    (cuts : AreCutsOf setting scope.from (pairs_of kept.ends.items) (pairs_of kept.cut_ends.items) hands.closings)
    (unended : kept.ended ≡ false → OfEach hands.closings (λ c. AreEndsOf setting c.marks []))
    (told : List (FoundMark MachineState)) (tells_cuts : AreCutsTold kept told) where
  abbrev heads : List GroupHead
  heads = group_heads kept.groups.items

  abbrev ends : List (FoundMark MachineState)
  ends = kept.ends.items

  abbrev each : (group : Group) → Contains groups group →
      Contains kept.groups.items group ⊎ ((1 < length kept.ends.items) × IsGroupOfEnds (tracing_in setting limits) kept.ends.items group)
  each = told_each (tracing_in setting limits) kept groups tells

  long : length (pairs_of ends) ≡ length ends
  long = length-map ends (λ (f : FoundMark MachineState). (f.state, f.log))

  few : TellsNoEnds groups → length (pairs_of ends) ≤ 1
  few none = let le = tells.none none in omega (arith, long, le)

  no_groups : groups ≡ [] → TellsNoEnds groups
  no_groups none group has is = nothing_in group (subst (λ (l : List Group). Contains l group) none has)

  no_cut_kept : TellsNoEnds groups → told ≡ [] → kept.cut_ends.items ≡ []
  no_cut_kept none e = tells_cuts.none e (tells.none none)

  its_cause : EachGroup (HasItsCause setting) groups
  its_cause i group at = elim (each group (contains_at groups i group at)) [
    | inl old ↦ (hands.collected.causes (group_head group) (to_map group_head kept.groups.items group old)).0.0
    | inr new ↦ new.1.caused.0.0
  ]

  its_lack : EachGroup (LacksOnlyNoCause setting limits) groups
  its_lack i group at = elim (each group (contains_at groups i group at)) [
    | inl old ↦ (hands.collected.causes (group_head group) (to_map group_head kept.groups.items group old)).0.1
    | inr new ↦ new.1.caused.0.1
  ]

  its_log : EachGroup HasLogOfFirst groups
  its_log i group at = elim (each group (contains_at groups i group at)) [
    | inl old ↦ (hands.collected.causes (group_head group) (to_map group_head kept.groups.items group old)).1
    | inr new ↦ new.1.caused.1
  ]

  its_first : EachGroup (HasFirstDifference setting limits) groups
  its_first i group at = elim (each group (contains_at groups i group at)) [
    | inl old ↦ told_first setting alike all there here mark_alike wide ranked widths after one_way limits scope groups heads ends kept.cut_runs
        kept.seen kept.refused findings hands (group_head group) (to_map group_head kept.groups.items group old)
    | inr new ↦
        let two = new.0 in
        told_ends setting alike all there here mark_alike wide ranked widths after one_way limits scope groups heads ends kept.cut_runs kept.seen
        kept.refused findings hands group.first new.1.tells (omega (arith, long, two))
  ]

  its_time : EachGroup (λ group. IsInTime setting scope.from kept.seen group.first) groups
  its_time i group at = elim (each group (contains_at groups i group at)) [
    | inl old ↦ told_in_time setting alike all there here mark_alike wide ranked widths after one_way limits scope groups heads ends
        kept.cut_runs kept.seen
        kept.refused findings hands (group_head group) (to_map group_head kept.groups.items group old)
    | inr new ↦ ends_in_time setting alike all there here mark_alike wide ranked widths after one_way limits scope groups heads ends
        kept.cut_runs kept.seen
        kept.refused findings hands group.first new.1.tells
  ]

  its_cuts : (told ≡ []) ⊎ (EachEnd (IsEndOfRun setting limits) (pairs_of told) × TwoCutsDiffer setting (pairs_of told))
  its_cuts = elim tells_cuts.whole [
    | inl none ↦ inl none
    | inr (is, le, some) ↦ inr (told_cuts setting alike all there here mark_alike wide ranked widths after one_way limits scope groups heads ends kept.cut_runs
        kept.seen kept.refused findings hands kept.cut_ends.items told cuts is (omega (arith, long, le)) some)
  ]

  pub is_told : IsTold setting limits scope groups told kept.ended kept.cut_runs kept.seen kept.refused findings
  is_told = record {
    cause = its_cause;
    no_cause = its_lack;
    first = its_first;
    log = its_log;
    all = all_to setting alike all there here mark_alike wide ranked widths after one_way limits scope groups heads ends kept.cut_runs kept.seen kept.refused
        findings hands;
    all_exhausted = all_throughout setting alike all there here mark_alike wide ranked widths after one_way limits scope groups heads ends kept.cut_runs
        kept.seen kept.refused findings hands;
    in_time = its_time;
    closed = ends_closed setting alike all there here mark_alike wide ranked widths after one_way limits scope groups heads ends kept.cut_runs
        kept.seen kept.refused findings hands;
    closed_time = time_of_run setting alike all there here mark_alike wide ranked widths after one_way limits scope groups heads ends kept.cut_runs
        kept.seen kept.refused findings hands;
    none = λ e. told_to setting alike all there here mark_alike wide ranked widths after one_way limits scope groups heads ends kept.cut_runs
        kept.seen kept.refused findings hands e (few (no_groups e));
    none_exhausted = λ e. told_throughout setting alike all there here mark_alike wide ranked widths after one_way limits scope groups heads ends
        kept.cut_runs kept.seen kept.refused findings hands e (few (no_groups e));
    ends = λ none. ends_to setting alike all there here mark_alike wide ranked widths after one_way limits scope groups heads ends kept.cut_runs
        kept.seen kept.refused findings hands (few none);
    ends_exhausted = λ none. ends_throughout setting alike all there here mark_alike wide ranked widths after one_way limits scope groups heads ends
        kept.cut_runs kept.seen kept.refused findings hands (few none);
    cut_ends = its_cuts;
    no_cut_ends = λ none e. cut_values_to setting alike all there here mark_alike wide ranked widths after one_way limits scope groups heads ends kept.cut_runs
        kept.seen kept.refused findings hands (few none) kept.cut_ends.items cuts (no_cut_kept none e);
    no_cut_ends_exhausted = λ none e. cut_values_throughout setting alike all there here mark_alike wide ranked widths after one_way limits scope groups heads
        ends kept.cut_runs kept.seen kept.refused findings hands (few none) kept.cut_ends.items cuts (no_cut_kept none e);
    no_end = λ e. no_end_to setting alike all there here mark_alike wide ranked widths after one_way limits scope groups heads ends kept.cut_runs kept.seen
        kept.refused findings hands (unended e);
    no_end_exhausted = λ e. no_end_throughout setting alike all there here mark_alike wide ranked widths after one_way limits scope groups heads ends
        kept.cut_runs kept.seen kept.refused findings hands (unended e);
    cuts = cuts_to setting alike all there here mark_alike wide ranked widths after one_way limits scope groups heads ends kept.cut_runs kept.seen
        kept.refused findings hands;
    cuts_exhausted = cuts_throughout setting alike all there here mark_alike wide ranked widths after one_way limits scope groups heads ends
        kept.cut_runs kept.seen kept.refused findings hands;
  }
