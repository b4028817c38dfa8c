-- What is kept of closed slots, once one more was closed.
use Rattle.std.proofs.Common.{◌≡◌, ◌≢◌, ◌⊎◌, ℕ, ◌<◌, ◌≤◌, Bool, false, List, [], ◌∷◌, ◌++◌, length, map, slice_get, take, None}
use Rattle.std.proofs.Common.{Option, Some, Result, Ok, Err, OnErr, OnOk, refl, sym, ap, ◌∙◌, subst, inl, inr, append-nil, append_assoc, arith}
use Rattle.std.specs.List.{Contains}
use Rattle.std.proofs.lemmas.Bool.{cases_lt}
use Rattle.std.proofs.lemmas.List.Elements.{Contains-append_cases, Contains-append_left, Contains-append_right, Contains-push_cases}
use Rattle.std.proofs.lemmas.List.{length-map, length_push, nil_from_length, take-map}
use Rattle.std.proofs.lemmas.Option.{same_Some}
use Rattle.std.proofs.Math.Seq.{take-append_seam}
use Rattle.basis.proofs.Lists.{at_contains, last_or_before, listed_place, place_within, stands_in_front, stands_last}
use Rattle.basis.specs.declared.memory.NoMemory.{NoMemory}
use Rattle.explore.specs.Ranked.{Closing, CollectsMore, OfEach, StaysAs, pairs_of}
use Rattle.explore.specs.declared.rank_marks.FoundMark.{FoundMark}
use Rattle.vmodel.specs.Run.{Setting}
use Rattle.vmachine.specs.declared.machine_state.MachineState.{MachineState}
use Rattle.racebook.specs.Races.{Race}
use Rattle.racebook.specs.LineRaces.{LineRace}
use Rattle.racebook.specs.Inner.{AreEndsOf, AreInTurn, IsOfItsTime}
use Rattle.racebook.specs.declared.slot_state.SlotState.{SlotState}
use Rattle.racebook.specs.declared.slots.FoundInSlot.{FoundInSlot}
use Rattle.racebook.proofs.ClosedLemmas.{slot_time}
use Rattle.racebook.proofs.ListLemmas.{contains_at}
use Rattle.cause.specs.declared.cause.Cause.{Cause}
use Rattle.race_groups.specs.declared.collected.RaceGroups.{RaceGroups}
use Rattle.race_groups.specs.declared.group.Difference.{Difference}
use Rattle.race_groups.specs.declared.group.Difference.TheVariants.{Values, Lines, Ends}
use Rattle.race_groups.specs.declared.group.Group.{Group}
use Rattle.race_groups.specs.declared.group.Name.{Name}
use Rattle.race_groups.specs.declared.group.Scope.{Scope}
use Rattle.race_groups.specs.declared.shown.FoundAt.{FoundAt}
use Rattle.race_groups.specs.declared.standing.Standing.{Standing}
use Rattle.race_groups.specs.Found.{IsNameInOne, IsOfEnds, name_of}
use Rattle.race_groups.specs.Inner.{Adds, AllAlike, AllWhollyAlike, AreApartInSlot, AreCutsOf, AreCutsTold, AreGroupsOf, AreNamedApart}
use Rattle.race_groups.specs.Inner.{AreTold, AreUncut, CollectsGroups, Counts, IsOpened, KeepsCut, SumsUpCuts}
use Rattle.race_groups.specs.Inner.{CountsStill, FirstTwoUnlike, GrowsBehind, GrowsTo, HaveAllOf, IsCaused, IsEndOfSome, IsGroupOfEnds}
use Rattle.race_groups.specs.Inner.{IsLastSeen, IsNamedByOne, IsNamedIn, IsNamedInSlot, IsOfSome, IsShownBy, KeepsGroups, OfEachFrom, ShowNamedFrom}
use Rattle.race_groups.specs.Inner.{OfEnds, ShowsNamed, StaysSo, SumsUp, TakesAll, TakesSlot, TellsEnds, GroupHead, differences_in}
use Rattle.race_groups.specs.Inner.{ExplainsOne, NoneFits, setting_of, group_head, group_heads, traced_by}
use Rattle.race_groups.specs.Tracing.{Tracing}
use Rattle.race_groups.specs.Standing.{AreStanding, AreStatesShown, IsFoundAt, standing_past}
use Rattle.race_groups.proofs.AddsLemmas.{adds_none, adds_on, adds_weaker}
use Rattle.race_groups.proofs.CountLemmas.{counts_on, explained_by, open_counts, still_on, take_still}
use Rattle.race_groups.proofs.SumLemmas.{first_before, grows_on}
use Rattle.race_groups.proofs.StandingLemmas.{standing_more, standing_taken}
use Rattle.race_groups.proofs.ListLemmas.{from_map, front_of_one, none_in_front, nothing_in}

abbrev Pair : Type 0
Pair = MachineState × List (ℕ × ℕ)

-- of one closing more, each of those before and the last
each_more : (closings : List (Closing MachineState)) (c : Closing MachineState) (P : Closing MachineState → Type 0) → OfEach closings P →
    P c → OfEach (closings ++ c ∷ []) P
each_more closings c P before last = λ i d at. elim (last_or_before closings c i d at) [
  | inl there ↦ before i d there
  | inr here ↦ subst P here.1 last
]

-- what a closing shows it still shows, whatever comes behind
shown_more : (setting : Setting) (closings : List (Closing MachineState)) (c : Closing MachineState) (place : ℕ)
    (k : Closing MachineState) (d : Difference) → place < length closings → IsShownBy setting closings place k d →
    IsShownBy setting (closings ++ c ∷ []) place k d
shown_more setting closings c place k (Values race) lt shown = record {
  standing = shown.standing;
  stand = standing_more setting closings c place shown.standing (omega (arith, lt)) shown.stand;
  races = shown.races;
  are = shown.are;
  has = shown.has;
}
shown_more setting closings c place k (Lines race) lt shown = record {
  standing = shown.standing;
  stand = standing_more setting closings c place shown.standing (omega (arith, lt)) shown.stand;
  races = shown.races;
  are = shown.are;
  has = shown.has;
}
shown_more setting closings c place k (Ends list) lt none = none

some_more : (setting : Setting) (from : ℕ) (closings : List (Closing MachineState)) (c : Closing MachineState) (d : Difference) →
    IsOfSome setting from closings d → IsOfSome setting from (closings ++ c ∷ []) d
some_more setting from closings c d of = record {
  place = of.place;
  closing = of.closing;
  at = stands_in_front closings (c ∷ []) of.place of.closing of.at;
  late = of.late;
  shown = shown_more setting closings c of.place of.closing d (place_within closings of.place of.closing of.at) of.shown;
}

end_more : (setting : Setting) (from : ℕ) (closings : List (Closing MachineState)) (c : Closing MachineState) (e : Pair) →
    IsEndOfSome setting from closings e → IsEndOfSome setting from (closings ++ c ∷ []) e
end_more setting from closings c e of = record {
  place = of.place;
  closing = of.closing;
  at = stands_in_front closings (c ∷ []) of.place of.closing of.at;
  late = of.late;
  among = of.among;
  ended = of.ended;
}

-- the differences of a slot are those that its closing shows
shown_in : (setting : Setting) (closings : List (Closing MachineState)) (place : ℕ) (c : Closing MachineState) (standing : List Standing)
    (given : FoundAt) → AreStanding setting closings place standing → IsFoundAt setting c.rank c.marks standing given → (d : Difference) →
    Contains (differences_in given.found) d → IsShownBy setting closings place c d
shown_in setting closings place c standing given stand is d has = elim (Contains-append_cases (map Values given.found.races.items)
    (map Lines given.found.line_races.items) d has) [
      | inl one ↦ (let m = from_map Values given.found.races.items d one in
          subst (IsShownBy setting closings place c) m.2 (record {
            standing = standing;
            stand = stand;
            races = given.found.races.items;
            are = is.races;
            has = m.1;
          }))
      | inr other ↦ (let m = from_map Lines given.found.line_races.items d other in
          subst (IsShownBy setting closings place c) m.2 (record {
            standing = standing;
            stand = stand;
            races = given.found.line_races.items;
            are = is.line_races;
            has = m.1;
          }))
    ]

-- where the differences that a closing shows have their names in one place, they have them in another
still_named : (setting : Setting) (Here There : Name → Type 0) (closings : List (Closing MachineState)) (place : ℕ)
    (k : Closing MachineState) → ((n : Name) → Here n → There n) → ShowsNamed setting Here closings place k →
    ShowsNamed setting There closings place k
still_named setting Here There closings place k from shows = record {
  standing = shows.standing;
  stand = shows.stand;
  races = shows.races;
  line_races = shows.line_races;
  values = shows.values;
  lines = shows.lines;
  each = λ race has. from (record { time = race.time; variable = Some race.variable }) (shows.each race has);
  each_line = λ race has. from (record { time = race.time; variable = None }) (shows.each_line race has);
}

-- and whatever comes behind
named_more : (setting : Setting) (from : ℕ) (Here There : Name → Type 0) (closings : List (Closing MachineState))
    (c : Closing MachineState) → ((n : Name) → Here n → There n) → ShowNamedFrom setting from Here closings →
    (from ≤ c.rank → ShowsNamed setting There (closings ++ c ∷ []) (length closings) c) →
    ShowNamedFrom setting from There (closings ++ c ∷ [])
named_more setting from Here There closings c so before last i d at late = elim (last_or_before closings c i d at) [
  | inl there ↦
      let shows = still_named setting Here There closings i d so (before i d there late) in
      let lt = place_within closings i d there in
      record {
        standing = shows.standing;
        stand = standing_more setting closings c i shows.standing (omega (arith, lt)) shows.stand;
        races = shows.races;
        line_races = shows.line_races;
        values = shows.values;
        lines = shows.lines;
        each = shows.each;
        each_line = shows.each_line;
      }
  | inr (here, same) ↦
      subst (λ (n : ℕ). ShowsNamed setting There (closings ++ c ∷ []) n d) (sym here)
      (subst (λ (e : Closing MachineState). ShowsNamed setting There (closings ++ c ∷ []) (length closings) e) same
      (last (subst (λ (e : Closing MachineState). from ≤ e.rank) (sym same) late)))
]

-- what is seen there is of its time
pub state_time : (setting : Setting) (k : Closing MachineState) (standing : List Standing) (gs : List SlotState) →
    IsOfItsTime setting k → AreStatesShown setting k.rank k.marks standing gs → (g : SlotState) → Contains gs g → g.time ≡ k.rank
state_time setting k standing gs times are g has = elim are.whole [
  | inl (none, empty) ↦ nothing_in g (subst (λ (l : List SlotState). Contains l g) empty has)
  | inr (some, adds) ↦ elim (adds.each g has) [
    | inl own ↦ (let o = are.are.each g own in slot_time setting o.found g k.rank o.of (times o.place o.found o.at))
    | inr still ↦ still.still.time_is
  ]
]

-- what a closing shows is of its time
shown_time : (setting : Setting) (closings : List (Closing MachineState)) (place : ℕ) (k : Closing MachineState) (d : Difference)
    (name : Name) → IsOfItsTime setting k → IsShownBy setting closings place k d →
    name_of d ≡ Some name → name.time ≡ k.rank
shown_time setting closings place k (Values race) name times shown is =
    let p = at_contains shown.races race shown.has in
    let r = shown.are.all.each p.0 race p.1 in
    let two = r.two in
    let s = listed_place race.values 0 (omega (arith, two)) in
    let seen = r.seen 0 s.0 s.1 in
    let named : Name = record { time = race.time; variable = Some race.variable } in
    ap (λ (n : Name). n.time) (sym (same_Some named name is)) ∙ sym seen.time_is
    ∙ state_time setting k shown.standing shown.are.slot_states times shown.are.are seen.slot_state seen.among
shown_time setting closings place k (Lines race) name times shown is =
    let p = at_contains shown.races race shown.has in
    let r = shown.are.all.each p.0 race p.1 in
    let two = r.two in
    let s = listed_place race.sides 0 (omega (arith, two)) in
    let seen = r.seen 0 s.0 s.1 in
    let named : Name = record { time = race.time; variable = None } in
    ap (λ (n : Name). n.time) (sym (same_Some named name is)) ∙ sym seen.time_is
    ∙ state_time setting k shown.standing shown.are.slot_states times shown.are.are seen.slot_state seen.among
shown_time setting closings place k (Ends list) name times none is = absurd none

-- what a slot gave is named once
apart_in_slot : (setting : Setting) (time : ℕ) (marks : List Pair) (standing : List Standing) (given : FoundAt) →
    IsFoundAt setting time marks standing given → AreApartInSlot given.found
apart_in_slot setting time marks standing given is = (
  λ i j a b n lt at at' one other.
      (let here : Name = record { time = a.time; variable = Some a.variable } in
      let there : Name = record { time = b.time; variable = Some b.variable } in
      let same : here ≡ there = same_Some here there (one ∙ sym other) in
      let times : a.time ≡ b.time = ap (λ (m : Name). m.time) same in
      let variables : a.variable ≡ b.variable = same_Some a.variable b.variable (ap (λ (m : Name). m.variable) same) in
      elim (is.races.all.order i j a b lt at at') [
        | inl before ↦ (let less : a.time < b.time = before in omega (arith, less, times))
        | inr (also, before) ↦ (let less : a.variable < b.variable = before in omega (arith, less, variables))
      ]),
  λ i j a b n lt at at' one other.
      (let here : Name = record { time = a.time; variable = None } in
      let there : Name = record { time = b.time; variable = None } in
      let same : here ≡ there = same_Some here there (one ∙ sym other) in
      let times : a.time ≡ b.time = ap (λ (m : Name). m.time) same in
      elim (is.line_races.all.order i j a b lt at at') [
        | inl before ↦ (let less : a.time < b.time = before in omega (arith, less, times))
        | inr (also, before) ↦ (let less : 0 < 0 = before in omega (arith, less))
      ]),
)

-- and each of it is shown by the closing
named_by_slot : (setting : Setting) (closings : List (Closing MachineState)) (place : ℕ) (c : Closing MachineState)
    (standing : List Standing) (given : FoundAt) → AreStanding setting closings place standing →
    IsFoundAt setting c.rank c.marks standing given → (name : Name) →
    IsNamedInSlot given.found name → (d : Difference) × IsShownBy setting closings place c d × (name_of d ≡ Some name)
named_by_slot setting closings place c standing given stand is name (inl one) = (
  Values one.race,
  record {
    standing = standing;
    stand = stand;
    races = given.found.races.items;
    are = is.races;
    has = contains_at given.found.races.items one.place one.race one.at;
  },
  one.is,
)
named_by_slot setting closings place c standing given stand is name (inr one) = (
  Lines one.race,
  record {
    standing = standing;
    stand = stand;
    races = given.found.line_races.items;
    are = is.line_races;
    has = contains_at given.found.line_races.items one.place one.race one.at;
  },
  one.is,
)

by_more : (setting : Setting) (from : ℕ) (closings : List (Closing MachineState)) (c : Closing MachineState) (name : Name) →
    IsNamedByOne setting from closings name → IsNamedByOne setting from (closings ++ c ∷ []) name
by_more setting from closings c name by = record {
  place = by.place;
  closing = by.closing;
  at = stands_in_front closings (c ∷ []) by.place by.closing by.at;
  late = by.late;
  difference = by.difference;
  shown = shown_more setting closings c by.place by.closing by.difference (place_within closings by.place by.closing by.at) by.shown;
  is = by.is;
}

turn_before : (setting : Setting) (closings : List (Closing MachineState)) (c : Closing MachineState) →
    AreInTurn setting (closings ++ c ∷ []) →
    AreInTurn setting closings
turn_before setting closings c turn = record {
  rise = λ i j a b lt at at'. turn.rise i j a b lt (stands_in_front closings (c ∷ []) i a at) (stands_in_front closings (c ∷ []) j b at');
  times = λ i a at. turn.times i a (stands_in_front closings (c ∷ []) i a at);
}

-- no name is of two closings
not_both : (setting : Setting) (from : ℕ) (closings : List (Closing MachineState)) (c : Closing MachineState)
    (name : Name) (d : Difference) →
    AreInTurn setting (closings ++ c ∷ []) → IsNamedByOne setting from closings name →
    IsShownBy setting (closings ++ c ∷ []) (length closings) c d →
    name_of d ≡ Some name → ⊥
not_both setting from closings c name d turn by shown is =
    let front = stands_in_front closings (c ∷ []) by.place by.closing by.at in
    let last = stands_last closings c in
    let lt = turn.rise by.place (length closings) by.closing c (place_within closings by.place by.closing by.at) front last in
    let old = shown_time setting closings by.place by.closing by.difference name (turn.times by.place by.closing front) by.shown by.is in
    let new = shown_time setting (closings ++ c ∷ []) (length closings) c d name (turn.times (length closings) c last) shown is in
    omega (arith, lt, old, new)

-- the differences of a slot are named where it was taken
slot_named : (setting : Setting) (closings : List (Closing MachineState)) (place : ℕ) (c : Closing MachineState)
    (standing : List Standing) (given : FoundAt) (Here : Name → Type 0) → AreStanding setting closings place standing →
    IsFoundAt setting c.rank c.marks standing given → ((n : Name) → IsNamedInSlot given.found n → Here n) →
    ShowsNamed setting Here closings place c
slot_named setting closings place c standing given Here stand is named = record {
  standing = standing;
  stand = stand;
  races = given.found.races.items;
  line_races = given.found.line_races.items;
  values = is.races;
  lines = is.line_races;
  each = λ race has. (let m = at_contains given.found.races.items race has in
      named (record { time = race.time; variable = Some race.variable }) (inl (record {
        place = m.0;
        race = race;
        within = place_within given.found.races.items m.0 race m.1;
        at = m.1;
        is = refl;
      })));
  each_line = λ race has. (let m = at_contains given.found.line_races.items race has in
      named (record { time = race.time; variable = None }) (inr (record {
        place = m.0;
        race = race;
        within = place_within given.found.line_races.items m.0 race m.1;
        at = m.1;
        is = refl;
      })));
}

module _ (tracing : Tracing) (scope : Scope) (closings : List (Closing MachineState)) (c : Closing MachineState)
    (standing : List Standing) (given : FoundAt) (stand : AreStanding tracing.setting closings (length closings) standing)
    (is : IsFoundAt tracing.setting c.rank c.marks standing given) (groups new_groups : List Group) (heads new_heads : List GroupHead)
    (ends new_ends : List Pair)
    (cut new_cut : Bool) (seen new_seen : Option ℕ) (refused new_refused : Option NoMemory)
    (kept : AreGroupsOf tracing scope groups heads ends cut seen refused closings)
    (adds : Adds tracing (Contains (differences_in given.found)) heads new_heads) (early_same : c.rank < scope.from → new_groups ≡ groups)
    (early_heads : c.rank < scope.from → new_heads ≡ heads)
    (counts : scope.from ≤ c.rank → AreApartInSlot given.found → Counts scope.names (IsNamedInSlot given.found)
    (ExplainsOne tracing (Contains (differences_in given.found))) groups new_groups)
    (before : c.rank < scope.from → new_ends ≡ ends) (sums : scope.from ≤ c.rank →
    SumsUp tracing.setting (pairs_of given.found.ends.items) ends new_ends)
    (uncut : new_cut ≡ false → (cut ≡ false) × AreUncut tracing.setting (pairs_of given.found.ends.items))
    (none_seen : length c.marks ≡ 0 → new_seen ≡ seen) (some_seen : 0 < length c.marks → new_seen ≡ Some c.rank)
    (same_refused : new_refused ≡ refused) where
  abbrev all : List (Closing MachineState)
  all = closings ++ c ∷ []

  abbrev taken : List Pair
  taken = pairs_of given.found.ends.items

  -- the marks that stand, with this closing behind
  stand_here : AreStanding tracing.setting all (length closings) standing
  stand_here = standing_more tracing.setting closings c (length closings) standing (omega arith) stand

  -- the ends that were kept stand in front
  in_front : (more : List Pair) × (new_ends ≡ ends ++ more)
  in_front = elim (cases_lt c.rank scope.from) [
    | inl early ↦ ([], before early ∙ sym (append-nil ends))
    | inr late ↦ (let s = sums late in (s.more, s.is))
  ]

  more_causes : (t : GroupHead) → Contains new_heads t → IsCaused tracing t
  more_causes t has = elim (Contains-append_cases heads adds.more t (subst (λ (l : List GroupHead). Contains l t) adds.is has)) [
    | inl old ↦ kept.causes t old
    | inr new ↦ adds.causes t new
  ]

  -- a difference of this slot
  of_this : scope.from ≤ c.rank → (d : Difference) → Contains (differences_in given.found) d → IsOfSome tracing.setting scope.from all d
  of_this late d has = record {
    place = length closings;
    closing = c;
    at = stands_last closings c;
    late = late;
    shown = shown_in tracing.setting all (length closings) c standing given stand_here is d has;
  }

  more_firsts : (t : GroupHead) → Contains new_heads t → IsOfSome tracing.setting scope.from all t.first
  more_firsts t has = elim (cases_lt c.rank scope.from) [
    | inl early ↦ some_more tracing.setting scope.from closings c t.first
        (kept.firsts t (subst (λ (l : List GroupHead). Contains l t) (early_heads early) has))
    | inr late ↦ elim (Contains-append_cases heads adds.more t (subst (λ (l : List GroupHead). Contains l t) adds.is has)) [
      | inl old ↦ some_more tracing.setting scope.from closings c t.first (kept.firsts t old)
      | inr new ↦ of_this late t.first (adds.firsts t new)
    ]
  ]

  was_sound : new_refused ≡ None → refused ≡ None
  was_sound sound = sym same_refused ∙ sound

  -- what explains a difference still does, whatever comes behind
  explained_more : (cause : Option Cause) (name : Name) → ExplainsOne tracing (IsOfSome tracing.setting scope.from closings) cause name →
      ExplainsOne tracing (IsOfSome tracing.setting scope.from all) cause name
  explained_more cause name (d, of, so) = (d, some_more tracing.setting scope.from closings c d of, so)

  -- an early slot changes no group
  all_early : c.rank < scope.from → HaveAllOf tracing scope new_groups new_refused all
  all_early early = subst (λ (l : List Group). HaveAllOf tracing scope l new_refused all) (sym (early_same early)) (record {
    rests = kept.all.rests;
    summaries = kept.all.summaries;
    shown = named_more tracing.setting scope.from (IsNameInOne groups kept.all.rests) (IsNameInOne groups kept.all.rests) closings c
        (λ n has. has) kept.all.shown (λ late. absurd (omega (arith, early, late)));
    only = λ sound name has. by_more tracing.setting scope.from closings c name (kept.all.only (was_sound sound) name has);
    once = λ sound turn. kept.all.once (was_sound sound) (turn_before tracing.setting closings c turn);
    caused = λ sound cause name has. explained_more cause name (kept.all.caused (was_sound sound) cause name has);
  })

  -- each difference of a later one is in a group then
  all_late : scope.from ≤ c.rank → HaveAllOf tracing scope new_groups new_refused all
  all_late late =
      let m = counts late (apart_in_slot tracing.setting c.rank c.marks standing given is) kept.all.rests kept.all.summaries in
      record {
        rests = m.after;
        summaries = m.summaries;
        shown = named_more tracing.setting scope.from (IsNameInOne groups kept.all.rests) (IsNameInOne new_groups m.after) closings c
            (λ n has. (has.0, m.still has.0 n has.1)) kept.all.shown
            (λ le. slot_named tracing.setting all (length closings) c standing given (IsNameInOne new_groups m.after) stand_here is m.named);
        only = λ sound name has. elim (m.only name has) [
          | inl was ↦ by_more tracing.setting scope.from closings c name (kept.all.only (was_sound sound) name was)
          | inr new ↦ (let by = named_by_slot tracing.setting all (length closings) c standing given stand_here is name new in
              record {
                place = length closings;
                closing = c;
                at = stands_last closings c;
                late = late;
                difference = by.0;
                shown = by.1;
                is = by.2;
              })
        ];
        once = λ sound turn. m.once (λ name new was.
            (let by = named_by_slot tracing.setting all (length closings) c standing given stand_here is name new in
            not_both tracing.setting scope.from closings c name by.0 turn (kept.all.only (was_sound sound) name was) by.1 by.2))
            (kept.all.once (was_sound sound) (turn_before tracing.setting closings c turn));
        caused = λ sound cause name has. elim (m.caused cause name has) [
          | inl was ↦ explained_more cause name (kept.all.caused (was_sound sound) cause name was)
          | inr (d, among, so) ↦ (d, of_this late d among, so)
        ];
      }

  more_all : HaveAllOf tracing scope new_groups new_refused all
  more_all = elim (cases_lt c.rank scope.from) [
    | inl early ↦ all_early early
    | inr late ↦ all_late late
  ]

  more_ends : (e : Pair) → Contains new_ends e → IsEndOfSome tracing.setting scope.from all e
  more_ends e has = elim (cases_lt c.rank scope.from) [
    | inl early ↦ end_more tracing.setting scope.from closings c e
        (kept.ends e (subst (λ (l : List Pair). Contains l e) (before early) has))
    | inr late ↦
        let s = sums late in
        elim (Contains-append_cases ends s.more e (subst (λ (l : List Pair). Contains l e) s.is has)) [
          | inl old ↦ end_more tracing.setting scope.from closings c e (kept.ends e old)
          | inr new ↦ (let of = is.ends.each e (s.among e new) in record {
            place = length closings;
            closing = c;
            at =
                stands_last closings c;
            late = late;
            among = of.0;
            ended = of.1;
          })
        ]
  ]

  more_no_end : new_ends ≡ [] → OfEachFrom scope.from all (λ marks. AreEndsOf tracing.setting marks [])
  more_no_end e = each_more closings c (λ d. scope.from ≤ d.rank → AreEndsOf tracing.setting d.marks [])
      (kept.no_end (none_in_front ends in_front.0 (sym in_front.1 ∙ e)))
      (λ late. subst (AreEndsOf tracing.setting c.marks) ((sums late).none e) is.ends)

  more_alike : (one : Pair) → new_ends ≡ one ∷ [] → OfEachFrom scope.from all
      (λ marks. OfEnds tracing.setting marks (λ l. AllAlike tracing.setting l one))
  more_alike one e = each_more closings c (λ d. scope.from ≤ d.rank → OfEnds tracing.setting d.marks (λ l. AllAlike tracing.setting l one))
      (elim (front_of_one ends in_front.0 one (sym in_front.1 ∙ e)) [
        | inl none ↦ (λ i d at late. ([], kept.no_end none i d at late, λ end has. nothing_in end has))
        | inr same ↦ kept.alike one same
      ])
      (λ late. (taken, is.ends, (sums late).alike one e))

  more_unlike : FirstTwoUnlike tracing.setting new_ends
  more_unlike = elim (cases_lt c.rank scope.from) [
    | inl early ↦ subst (FirstTwoUnlike tracing.setting) (sym (before early)) kept.unlike
    | inr late ↦ (sums late).unlike kept.unlike
  ]

  more_uncut : new_cut ≡ false → OfEach all (λ d. OfEnds tracing.setting d.marks (AreUncut tracing.setting))
  more_uncut e = each_more closings c (λ d. OfEnds tracing.setting d.marks (AreUncut tracing.setting)) (kept.uncut (uncut e).0)
      (taken, is.ends, (uncut e).1)

  -- of which slot a mark was seen last
  last_on : (o : Option ℕ) → IsLastSeen o closings → c.marks ≡ [] → IsLastSeen o all
  last_on None each none = each_more closings c (λ d. d.marks ≡ []) each none
  last_on (Some rank) last none = record {
    place = last.place;
    closing = last.closing;
    at = stands_in_front closings (c ∷ []) last.place last.closing last.at;
    rank_is = last.rank_is;
    some = last.some;
    none_behind = λ i d lt at. elim (last_or_before closings c i d at) [
      | inl there ↦ last.none_behind i d lt there
      | inr here ↦ subst (λ (e : Closing MachineState). e.marks ≡ []) here.1 none
    ];
  }

  more_last : IsLastSeen new_seen all
  more_last = elim (cases_lt 0 (length c.marks)) [
    | inl some ↦ subst (λ (o : Option ℕ). IsLastSeen o all) (sym (some_seen some)) (record {
      place = length closings;
      closing = c;
      at = stands_last closings c;
      rank_is = refl;
      some = some;
      none_behind = λ i d lt at. absurd (let w = place_within all i d at in let n = length_push closings c in omega (arith, lt, w, n));
    })
    | inr few ↦
        let zero_is : length c.marks ≡ 0 = omega (arith, few) in
        subst (λ (o : Option ℕ). IsLastSeen o all) (sym (none_seen zero_is)) (last_on seen kept.last_seen (nil_from_length c.marks zero_is))
  ]

  kept_more : AreGroupsOf tracing scope new_groups new_heads new_ends new_cut new_seen new_refused all
  kept_more = record {
    causes = more_causes;
    firsts = more_firsts;
    all = more_all;
    ends = more_ends;
    no_end = more_no_end;
    alike = more_alike;
    unlike = more_unlike;
    uncut = more_uncut;
    last_seen = more_last;
  }

-- the same of cut ends
module _ (setting : Setting) (from : ℕ) (closings : List (Closing MachineState)) (c : Closing MachineState) (found : FoundInSlot)
    (ends_are : AreEndsOf setting c.marks (pairs_of found.ends.items)) (ends new_ends cuts new_cuts : List Pair)
    (no_end : ends ≡ [] → OfEachFrom from closings (λ marks. AreEndsOf setting marks []))
    (kept : AreCutsOf setting from ends cuts closings) (before : c.rank < from → new_ends ≡ ends)
    (cuts_before : c.rank < from → new_cuts ≡ cuts) (sums : from ≤ c.rank → SumsUp setting (pairs_of found.ends.items) ends new_ends)
    (sums_cuts : from ≤ c.rank → SumsUpCuts setting (pairs_of found.ends.items) ends new_ends cuts new_cuts) where
  abbrev to_here : List (Closing MachineState)
  to_here = closings ++ c ∷ []

  each_cut : (end : Pair) → Contains new_cuts end → IsEndOfSome setting from to_here end
  each_cut end has = elim (cases_lt c.rank from) [
    | inl early ↦ end_more setting from closings c end
        (kept.each end (subst (λ (l : List Pair). Contains l end) (cuts_before early) has))
    | inr late ↦
        let s = sums_cuts late in
        elim (Contains-append_cases cuts s.more end (subst (λ (l : List Pair). Contains l end) s.is has)) [
          | inl old ↦ end_more setting from closings c end (kept.each end old)
          | inr new ↦ (let of = ends_are.each end (s.among end new) in record {
            place = length closings;
            closing = c;
            at = stands_last closings c;
            late = late;
            among = of.0;
            ended = of.1;
          })
        ]
  ]

  -- the first end stood there before, if one did
  was_first : (one : Pair) → slice_get new_ends 0 ≡ Some one → (ends ≡ []) ⊎ (slice_get ends 0 ≡ Some one)
  was_first one at = elim (cases_lt c.rank from) [
    | inl early ↦ inr (sym (ap (λ (l : List Pair). slice_get l 0) (before early)) ∙ at)
    | inr late ↦ first_before ends new_ends (sums late).more one (sums late).is at
  ]

  had_none : new_cuts ≡ [] → cuts ≡ []
  had_none none = elim (cases_lt c.rank from) [
    | inl early ↦ sym (cuts_before early) ∙ none
    | inr late ↦ none_in_front cuts (sums_cuts late).more (sym (sums_cuts late).is ∙ none)
  ]

  none_cut : new_cuts ≡ [] → (one : Pair) → slice_get new_ends 0 ≡ Some one → OfEachFrom from to_here
      (λ marks. OfEnds setting marks (λ list. AllWhollyAlike setting list one))
  none_cut none one at = each_more closings c (λ d. from ≤ d.rank → OfEnds setting d.marks (λ list. AllWhollyAlike setting list one))
      (elim (was_first one at) [
        | inl bare ↦ (λ i d at late. ([], no_end bare i d at late, λ end has. nothing_in end has))
        | inr there ↦ kept.none (had_none none) one there
      ])
      (λ late. (pairs_of found.ends.items, ends_are, (sums_cuts late).none none one at))

  kept_cut : KeepsCut setting new_ends new_cuts
  kept_cut = elim (cases_lt c.rank from) [
    | inl early ↦ subst (λ (l : List Pair). KeepsCut setting l new_cuts) (sym (before early))
        (subst (KeepsCut setting ends) (sym (cuts_before early)) kept.kept)
    | inr late ↦ (sums_cuts late).kept kept.kept
  ]

  cuts_more : AreCutsOf setting from new_ends new_cuts to_here
  cuts_more = record { each = each_cut; none = none_cut; kept = kept_cut }

pub no_cuts : (setting : Setting) (from : ℕ) (ends cuts : List Pair) → ends ≡ [] → cuts ≡ [] → AreCutsOf setting from ends cuts []
no_cuts setting from ends cuts no_end no_cut = record {
  each = λ end has. nothing_in end (subst (λ (l : List Pair). Contains l end) no_cut has);
  none = λ e one at i c at_c. absurd (cc);
  kept = record {
    bare = λ e. no_cut;
    alike = λ one other at at'. absurd (let e = ap (λ (l : List Pair). slice_get l 0) no_end in cc);
    unlike = λ one other at at'. absurd (let e = ap (λ (l : List Pair). slice_get l 0) no_end in cc);
  };
}

-- cut ends that are the same, of the same closings
same_cuts : (setting : Setting) (from : ℕ) (ends new_ends cuts new_cuts : List (FoundMark MachineState))
    (closings : List (Closing MachineState)) → AreCutsOf setting from (pairs_of ends) (pairs_of cuts) closings → new_ends ≡ ends →
    new_cuts ≡ cuts → AreCutsOf setting from (pairs_of new_ends) (pairs_of new_cuts) closings
same_cuts setting from ends new_ends cuts new_cuts closings are same same_cut =
    subst (λ (l : List (FoundMark MachineState)). AreCutsOf setting from (pairs_of l) (pairs_of new_cuts) closings) (sym same)
    (subst (λ (l : List (FoundMark MachineState)). AreCutsOf setting from (pairs_of ends) (pairs_of l) closings) (sym same_cut) are)

pub kept_none : (tracing : Tracing) (scope : Scope) (groups : List Group) (ends : List Pair) → groups ≡ [] → ends ≡ [] →
    AreGroupsOf tracing scope groups (group_heads groups) ends false None None []
kept_none tracing scope groups ends no_group no_end = record {
  causes = λ t has. nothing_in t (subst (λ (l : List Group). Contains (group_heads l) t) no_group has);
  firsts = λ t has. nothing_in t (subst (λ (l : List Group). Contains (group_heads l) t) no_group has);
  all = record {
    rests = λ place. [];
    summaries = λ i group at. absurd (let e = ap (λ (l : List Group). slice_get l i) no_group in cc);
    shown = λ i c at. absurd (cc);
    only = λ sound name has. absurd (let e = ap (λ (l : List Group). slice_get l has.0) no_group in let f = has.1.at in cc);
    once = λ sound turn. record {
      once = λ i j k l name one other. absurd (let e = ap (λ (l : List Group). slice_get l i) no_group in let f = one.at in cc);
      not_first = λ i group name at. absurd (let e = ap (λ (l : List Group). slice_get l i) no_group in cc);
    };
    caused = λ sound cause name has. absurd (let e = ap (λ (l : List Group). slice_get l has.place) no_group in let f = has.at in cc);
  };
  ends = λ end has. nothing_in end (subst (λ (l : List Pair). Contains l end) no_end has);
  no_end = λ e i c at. absurd (cc);
  alike = λ one e i c at. absurd (cc);
  unlike = λ one other at at'. absurd (let e = ap (λ (l : List Pair). slice_get l 0) no_end in cc);
  uncut = λ e i c at. absurd (cc);
  last_seen = λ i c at. absurd (cc);
}

-- where groups sum up what they did before, of the same closings, and memory was refused
same_all : (tracing : Tracing) (scope : Scope) (groups new_groups : List Group) (refused new_refused : Option NoMemory)
    (closings : List (Closing MachineState)) →
    HaveAllOf tracing scope groups refused closings → CountsStill scope.names groups new_groups → new_refused ≢ None →
    HaveAllOf tracing scope new_groups new_refused closings
same_all tracing scope groups new_groups refused new_refused closings all still gone =
    let m = still all.rests all.summaries in
    record {
      rests = m.after;
      summaries = m.summaries;
      shown = λ i d at late. still_named tracing.setting (IsNameInOne groups all.rests) (IsNameInOne new_groups m.after) closings i d
          (λ n has. (has.0, m.still has.0 n has.1)) (all.shown i d at late);
      only = λ sound. absurd (gone sound);
      once = λ sound. absurd (gone sound);
      caused = λ sound. absurd (gone sound);
    }

-- groups, ends and cuts that are the same, of the same closings
same_kept : (tracing : Tracing) (scope : Scope) (groups new_groups : List Group) (heads new_heads : List GroupHead)
    (ends new_ends : List (FoundMark MachineState)) (cut new_cut : Bool) (seen new_seen : Option ℕ) (refused new_refused : Option NoMemory)
    (closings : List (Closing MachineState)) → AreGroupsOf tracing scope groups heads (pairs_of ends) cut seen refused closings →
    CountsStill scope.names groups new_groups → new_heads ≡ heads → new_ends ≡ ends → (new_cut ≡ false → cut ≡ false) → new_seen ≡ seen →
    new_refused ≢ None → AreGroupsOf tracing scope new_groups new_heads (pairs_of new_ends) new_cut new_seen new_refused closings
same_kept tracing scope groups new_groups heads new_heads ends new_ends cut new_cut seen new_seen refused new_refused
    closings kept still same
    same_ends uncut same_seen gone =
    let K : List GroupHead → List (FoundMark MachineState) → Option ℕ → Type 0 =
    λ l e o. AreGroupsOf tracing scope new_groups l (pairs_of e) new_cut o new_refused closings in
    let now : K heads ends seen = record {
      causes = kept.causes;
      firsts = kept.firsts;
      all = same_all tracing scope groups new_groups refused new_refused closings kept.all still gone;
      ends = kept.ends;
      no_end = kept.no_end;
      alike = kept.alike;
      unlike = kept.unlike;
      uncut = λ e. kept.uncut (uncut e);
      last_seen = kept.last_seen;
    } in
    subst (λ (l : List GroupHead). K l new_ends new_seen) (sym same)
    (subst (λ (e : List (FoundMark MachineState)). K heads e new_seen) (sym same_ends) (subst (K heads ends) (sym same_seen) now))

-- where the same is kept no more was collected
pub collects_same : (old new : RaceGroups) → StaysSo old new → new.seen ≡ old.seen → new.refused ≢ None →
    StaysAs CollectsGroups old new
collects_same old new same same_seen gone = λ first closings collected.
    record {
      traced = same.traced ∙ collected.traced;
      scope = same.scope ∙ collected.scope;
      kept = λ before so. record {
        groups = same_kept (traced_by first) first.scope old.groups.items new.groups.items (group_heads old.groups.items)
            (group_heads new.groups.items) old.ends.items new.ends.items old.cut_runs new.cut_runs old.seen new.seen old.refused new.refused
            (before ++ closings) (collected.kept before so).groups
            (subst (λ (s : Scope). CountsStill s.names old.groups.items new.groups.items) collected.scope same.still)
            same.groups same.ends same.cut same_seen gone;
        cuts = same_cuts (traced_by first).setting first.scope.from old.ends.items new.ends.items old.cut_ends.items new.cut_ends.items
            (before ++ closings) (collected.kept before so).cuts same.ends same.cut_ends;
        unended = λ e. (collected.kept before so).unended (same.ended e);
        standing = subst (AreStanding (traced_by first).setting (before ++ closings) (length (before ++ closings))) (sym same.standing)
            (collected.kept before so).standing;
      };
    }

-- one slot more
pub collects_more : (old new : RaceGroups) (c : Closing MachineState) (given : FoundAt) →
    IsFoundAt (setting_of old) c.rank c.marks old.standing.items given → TakesSlot c.rank given.found old new → (length c.marks ≡ 0 → new.seen ≡ old.seen) → (0 < length c.marks → new.seen ≡ Some c.rank) →
    new.refused ≡ old.refused → new.standing.items ≡ standing_past c.rank (old.standing.items ++ given.going_on.items) →
    CollectsMore CollectsGroups old c new
collects_more old new c given of takes none_seen some_seen same_refused stands = λ first closings collected.
    (let P : Tracing → Scope → Type 0 = λ t scope. (before : List (Closing MachineState)) → KeepsGroups t scope first before →
    KeepsGroups t scope old (before ++ closings) in
    let so_far : P (traced_by old) old.scope = subst (λ (t : Tracing). P t old.scope) (sym collected.traced)
    (subst (P (traced_by first)) (sym collected.scope) collected.kept) in
    let Q : Tracing → Scope → Type 0 = λ t scope. (before : List (Closing MachineState)) → KeepsGroups t scope first before →
    KeepsGroups t scope new (before ++ (closings ++ c ∷ [])) in
    let behind : Q (traced_by old) old.scope = λ before so.
    subst (KeepsGroups (traced_by old) old.scope new) (append_assoc before closings (c ∷ [])) (record {
      groups = kept_more (traced_by old) old.scope (before ++ closings) c old.standing.items given (so_far before so).standing of
          old.groups.items new.groups.items
          (group_heads old.groups.items)
          (group_heads new.groups.items) (pairs_of old.ends.items) (pairs_of new.ends.items) old.cut_runs new.cut_runs old.seen new.seen
          old.refused new.refused (so_far before so).groups takes.adds takes.early (λ early. ap group_heads (takes.early early)) takes.counts
          (λ early. ap pairs_of (takes.before early)) takes.ends takes.cut
          none_seen some_seen same_refused;
      cuts = cuts_more (setting_of old) old.scope.from (before ++ closings) c given.found of.ends (pairs_of old.ends.items) (pairs_of new.ends.items)
          (pairs_of old.cut_ends.items) (pairs_of new.cut_ends.items) (so_far before so).groups.no_end (so_far before so).cuts
          (λ early. ap pairs_of (takes.before early)) (λ early. ap pairs_of (takes.cuts_before early)) takes.ends takes.cut_ends;
      unended = λ e. each_more (before ++ closings) c (λ d. AreEndsOf (setting_of old) d.marks [])
          ((so_far before so).unended (takes.ended e).0)
          (subst (λ (l : List (FoundMark MachineState)). AreEndsOf (setting_of old) c.marks (pairs_of l)) (takes.ended e).1 of.ends);
      standing = standing_taken (setting_of old) (before ++ closings) c old.standing.items given.going_on.items (so_far before so).standing
          of.going_on new.standing.items stands;
    }) in
    record {
      traced = takes.traced ∙ collected.traced;
      scope = takes.scope ∙ collected.scope;
      kept = subst (λ (t : Tracing). Q t first.scope) collected.traced (subst (Q (traced_by old)) collected.scope behind);
    })

pub collects_no_more : {U E : Type 0} (now : RaceGroups) (result : Result U E) → OnErr result (StaysAs CollectsGroups now now)
collects_no_more now (Ok u) = tt
collects_no_more now (Err e) = λ first closings collected. collected

-- ---- what is told

pub cuts_told : (kept : RaceGroups) (told : List (FoundMark MachineState)) → length kept.ends.items ≤ 1 →
    (told ≡ [] → kept.cut_ends.items ≡ []) →
    (told ≢ [] → (told ≡ kept.ends.items ++ kept.cut_ends.items) × (kept.cut_ends.items ≢ [])) → AreCutsTold kept told
cuts_told kept [] few none some = record { whole = inl refl; none = λ e le. none refl }
cuts_told kept (x ∷ xs) few none some =
    let s = some (λ e. absurd (cc)) in
    record { whole = inr (s.0, few, s.1); none = λ e le. absurd (cc) }

-- ends have no name
no_name : (ends : List (FoundMark MachineState)) (d : Difference) → TellsEnds ends d → (name : Name) → name_of d ≡ Some name → ⊥
no_name ends (Values race) tells name is = tells
no_name ends (Lines race) tells name is = tells
no_name ends (Ends list) tells name is = absurd cc

ends_told : (ends : List (FoundMark MachineState)) (d : Difference) → TellsEnds ends d → IsOfEnds d
ends_told ends (Values race) tells = tells
ends_told ends (Lines race) tells = tells
ends_told ends (Ends list) tells = tt

pub told_of_ends : (tracing : Tracing) (kept : RaceGroups) (groups : List Group) (group : Group) → 1 < length kept.ends.items →
    groups ≡ kept.groups.items ++ group ∷ [] → IsGroupOfEnds tracing kept.ends.items group → AreTold tracing kept groups
told_of_ends tracing kept groups group two is of = record {
  none = λ none. absurd (none group (subst (λ (l : List Group). Contains l group) (sym is)
      (Contains-append_right kept.groups.items (group ∷ []) group (contains_at (group ∷ []) 0 group refl)))
      (ends_told kept.ends.items group.first of.tells));
  whole = inr (group, is, two, of);
}

-- each that is told was kept, or tells ends
pub told_each : (tracing : Tracing) (kept : RaceGroups) (groups : List Group) → AreTold tracing kept groups → (group : Group) →
    Contains groups group →
    Contains kept.groups.items group ⊎ ((1 < length kept.ends.items) × IsGroupOfEnds tracing kept.ends.items group)
told_each tracing kept groups tells group has = elim tells.whole [
  | inl same ↦ inl (subst (λ (l : List Group). Contains l group) same has)
  | inr more ↦ elim (Contains-push_cases kept.groups.items more.0 group (subst (λ (l : List Group). Contains l group) more.1 has)) [
    | inl old ↦ inl old
    | inr is ↦ inr (more.2, subst (IsGroupOfEnds tracing kept.ends.items) is more.3)
  ]
]

-- a group of ends counts no other difference
told_more : (tracing : Tracing) (scope : Scope) (groups new_groups : List Group) (refused : Option NoMemory)
    (closings : List (Closing MachineState)) (ends : List (FoundMark MachineState)) (group : Group) →
    HaveAllOf tracing scope groups refused closings → new_groups ≡ groups ++ group ∷ [] → IsGroupOfEnds tracing ends group →
    HaveAllOf tracing scope new_groups refused closings
told_more tracing scope groups new_groups refused closings ends group all is of =
    let opened : IsOpened group.first group groups new_groups = record {
      is = is;
      first = refl;
      next = of.next;
      more = of.more;
      last = λ name named. absurd (no_name ends group.first of.tells name named);
    } in
    let m = open_counts scope.names group.first NoneFits groups new_groups group opened all.rests all.summaries in
    record {
      rests = m.after;
      summaries = m.summaries;
      shown = λ i d at late. still_named tracing.setting (IsNameInOne groups all.rests) (IsNameInOne new_groups m.after) closings i d
          (λ n has. (has.0, m.still has.0 n has.1)) (all.shown i d at late);
      only = λ sound name has. elim (m.only name has) [
        | inl was ↦ all.only sound name was
        | inr new ↦ absurd (no_name ends group.first of.tells name new)
      ];
      once = λ sound turn. m.once (λ name new was. no_name ends group.first of.tells name new) (all.once sound turn);
      caused = λ sound cause name has. elim (m.caused cause name has) [
        | inl was ↦ all.caused sound cause name was
        | inr none ↦ absurd none
      ];
    }

pub told_all : (tracing : Tracing) (scope : Scope) (kept : RaceGroups) (groups : List Group) (closings : List (Closing MachineState)) →
    AreTold tracing kept groups → HaveAllOf tracing scope kept.groups.items kept.refused closings →
    HaveAllOf tracing scope groups kept.refused closings
told_all tracing scope kept groups closings tells have = elim tells.whole [
  | inl same ↦ subst (λ (l : List Group). HaveAllOf tracing scope l kept.refused closings) (sym same) have
  | inr more ↦ told_more tracing scope kept.groups.items groups kept.refused closings kept.ends.items more.0 have more.1 more.3
]

-- ---- one slot is taken

-- all that it gave
pub takes_all : (found : FoundInSlot) (races : List Race) (line_races : List LineRace) (old new : RaceGroups) (mid : List Group)
    (here there : Tracing) (last : Setting) → races ≡ found.races.items → line_races ≡ found.line_races.items → here ≡ traced_by old →
    there ≡ traced_by old → last ≡ setting_of old → traced_by new ≡ traced_by old → new.scope ≡ old.scope →
    new.ended ≡ old.ended → new.cut_runs ≡ old.cut_runs → Adds here (Contains (map Values races)) (group_heads old.groups.items) (group_heads mid) →
    (AreNamedApart Values races → Counts old.scope.names (IsNamedIn Values races (length races))
    (ExplainsOne here (Contains (map Values races))) old.groups.items mid) →
    Adds there (Contains (map Lines line_races)) (group_heads mid) (group_heads new.groups.items) →
    (AreNamedApart Lines line_races → Counts old.scope.names (IsNamedIn Lines line_races (length line_races))
    (ExplainsOne there (Contains (map Lines line_races))) mid new.groups.items) →
    SumsUp last (pairs_of found.ends.items) (pairs_of old.ends.items) (pairs_of new.ends.items) →
    SumsUpCuts last (pairs_of found.ends.items) (pairs_of old.ends.items) (pairs_of new.ends.items) (pairs_of old.cut_ends.items)
    (pairs_of new.cut_ends.items) → TakesAll found old new
takes_all found races line_races old new mid here there last races_are lines_are here_is there_is last_is traced scope ended cut one
    count_one other count_other sums sums_cuts =
    let values = map Values races in
    let lines = map Lines line_races in
    let all_are : values ++ lines ≡ differences_in found = λ i. map Values (races_are i) ++ map Lines (lines_are i) in
    let t = traced_by old in
    let first = adds_weaker t (Contains values) (Contains (values ++ lines)) (group_heads old.groups.items) (group_heads mid)
    (λ d has. Contains-append_left values lines d has)
    (subst (λ (x : Tracing). Adds x (Contains values) (group_heads old.groups.items) (group_heads mid)) here_is one) in
    let second = adds_weaker t (Contains lines) (Contains (values ++ lines)) (group_heads mid) (group_heads new.groups.items)
    (λ d has. Contains-append_right values lines d has)
    (subst (λ (x : Tracing). Adds x (Contains lines) (group_heads mid) (group_heads new.groups.items)) there_is other) in
    let Fits : Option Cause → Name → Type 0 = ExplainsOne t (Contains (differences_in found)) in
    let fit_one : AreNamedApart Values races → Counts old.scope.names (IsNamedIn Values races (length races)) Fits old.groups.items mid =
    λ apart. explained_by old.scope.names (IsNamedIn Values races (length races)) here t (Contains values) (Contains (differences_in found))
    old.groups.items mid here_is (λ d has. subst (λ (l : List Difference). Contains l d) all_are (Contains-append_left values lines d has))
    (count_one apart) in
    let fit_other : AreNamedApart Lines line_races → Counts old.scope.names (IsNamedIn Lines line_races (length line_races)) Fits mid new.groups.items =
    λ apart. explained_by old.scope.names (IsNamedIn Lines line_races (length line_races)) there t (Contains lines)
    (Contains (differences_in found)) mid new.groups.items there_is
    (λ d has. subst (λ (l : List Difference). Contains l d) all_are (Contains-append_right values lines d has)) (count_other apart) in
    record {
      traced = traced;
      scope = scope;
      ended = ended;
      cut = cut;
      adds = subst (λ (l : List Difference). Adds t (Contains l) (group_heads old.groups.items) (group_heads new.groups.items)) all_are
          (adds_on t (Contains (values ++ lines)) (group_heads old.groups.items) (group_heads mid) (group_heads new.groups.items) first second);
      counts = λ apart. counts_on old.scope.names (IsNamedIn Values found.races.items (length found.races.items))
          (IsNamedIn Lines found.line_races.items (length found.line_races.items)) Fits old.groups.items mid new.groups.items
          (λ n one other.
          (let here : Name = record { time = one.race.time; variable = Some one.race.variable } in
          let there : Name = record { time = other.race.time; variable = None } in
          let same = ap (λ (m : Name). m.variable) (same_Some here there (one.is ∙ sym other.is)) in
          cc))
          (subst (λ (l : List Race). AreNamedApart Values l → Counts old.scope.names (IsNamedIn Values l (length l)) Fits old.groups.items mid)
          races_are fit_one apart.0)
          (subst (λ (l : List LineRace). AreNamedApart Lines l → Counts old.scope.names (IsNamedIn Lines l (length l)) Fits mid new.groups.items)
          lines_are fit_other apart.1);
      ends = subst (λ (x : Setting). SumsUp x (pairs_of found.ends.items) (pairs_of old.ends.items) (pairs_of new.ends.items)) last_is sums;
      cut_ends = subst (λ (x : Setting). SumsUpCuts x (pairs_of found.ends.items) (pairs_of old.ends.items) (pairs_of new.ends.items)
          (pairs_of old.cut_ends.items) (pairs_of new.cut_ends.items)) last_is sums_cuts;
    }

-- what an early slot gave is left out
pub takes_early : (time : ℕ) (found : FoundInSlot) (old new : RaceGroups) → time < old.scope.from → traced_by new ≡ traced_by old →
    new.scope ≡ old.scope → new.groups.items ≡ old.groups.items →
    new.ends.items ≡ old.ends.items → new.cut_ends.items ≡ old.cut_ends.items →
    (new.ended ≡ false → (old.ended ≡ false) × (found.ends.items ≡ [])) → (new.cut_runs ≡ false → (old.cut_runs ≡ false) × AreUncut (setting_of old)
    (pairs_of found.ends.items)) → TakesSlot time found old new
takes_early time found old new early traced scope same ends cut_ends ended cut = record {
  traced = traced;
  scope = scope;
  adds = adds_none (traced_by old) (Contains (differences_in found)) (group_heads old.groups.items)
      (group_heads new.groups.items) (ap group_heads same);
  early = λ lt. same;
  counts = λ late. absurd (omega (arith, early, late));
  before = λ lt. ends;
  ends = λ late. absurd (omega (arith, early, late));
  cuts_before = λ lt. cut_ends;
  cut_ends = λ late. absurd (omega (arith, early, late));
  ended = ended;
  cut = cut;
}

-- what a later one gave is taken; what else the slot changed before stands in `mid`
pub takes_late : (time : ℕ) (found : FoundInSlot) (old mid new : RaceGroups) → old.scope.from ≤ time → traced_by mid ≡ traced_by old →
    mid.scope ≡ old.scope → mid.groups.items ≡ old.groups.items →
    mid.ends.items ≡ old.ends.items → mid.cut_ends.items ≡ old.cut_ends.items →
    (mid.ended ≡ false → (old.ended ≡ false) × (found.ends.items ≡ [])) → (mid.cut_runs ≡ false → (old.cut_runs ≡ false) × AreUncut (setting_of old)
    (pairs_of found.ends.items)) → TakesAll found mid new → TakesSlot time found old new
takes_late time found old mid new late traced scope same ends cut_ends ended cut all =
    let Fits : Tracing → Option Cause → Name → Type 0 = λ t. ExplainsOne t (Contains (differences_in found)) in
    let counts = subst (λ (t : Tracing). AreApartInSlot found → Counts old.scope.names (IsNamedInSlot found) (Fits t) old.groups.items
    new.groups.items) traced
    (subst (λ (s : Scope). AreApartInSlot found → Counts s.names (IsNamedInSlot found) (Fits (traced_by mid)) old.groups.items
    new.groups.items) scope
    (subst (λ (l : List Group). AreApartInSlot found → Counts mid.scope.names (IsNamedInSlot found) (Fits (traced_by mid)) l
    new.groups.items) same all.counts)) in
    record {
      traced = all.traced ∙ traced;
      scope = all.scope ∙ scope;
      adds = subst (λ (t : Tracing). Adds t (Contains (differences_in found)) (group_heads old.groups.items)
          (group_heads new.groups.items)) traced
          (subst (λ (l : List Group). Adds (traced_by mid) (Contains (differences_in found)) (group_heads l)
          (group_heads new.groups.items)) same all.adds);
      early = λ lt. absurd (omega (arith, lt, late));
      counts = λ le. counts;
      before = λ lt. absurd (omega (arith, lt, late));
      ends = λ le. subst (λ (t : Tracing). SumsUp t.setting (pairs_of found.ends.items) (pairs_of old.ends.items)
          (pairs_of new.ends.items)) traced
          (subst (λ (l : List (FoundMark MachineState)). SumsUp (setting_of mid) (pairs_of found.ends.items) (pairs_of l)
          (pairs_of new.ends.items)) ends all.ends);
      cuts_before = λ lt. absurd (omega (arith, lt, late));
      cut_ends = λ le. subst (λ (t : Tracing). SumsUpCuts t.setting (pairs_of found.ends.items) (pairs_of old.ends.items)
          (pairs_of new.ends.items) (pairs_of old.cut_ends.items) (pairs_of new.cut_ends.items)) traced
          (subst (λ (l : List (FoundMark MachineState)). SumsUpCuts (setting_of mid) (pairs_of found.ends.items) (pairs_of old.ends.items)
          (pairs_of new.ends.items) (pairs_of l) (pairs_of new.cut_ends.items)) cut_ends
          (subst (λ (l : List (FoundMark MachineState)). SumsUpCuts (setting_of mid) (pairs_of found.ends.items) (pairs_of l)
          (pairs_of new.ends.items) (pairs_of mid.cut_ends.items) (pairs_of new.cut_ends.items)) ends all.cut_ends));
      ended = λ e. ended (sym all.ended ∙ e);
      cut = λ e. cut (sym all.cut ∙ e);
    }

-- what was seen is no part of it
pub takes_seen : (time : ℕ) (found : FoundInSlot) (old new : RaceGroups) (seen : Option ℕ) → TakesSlot time found old new →
    TakesSlot time found old (record new { seen = seen })
takes_seen time found old new seen takes = record {
  traced = takes.traced;
  scope = takes.scope;
  adds = takes.adds;
  early = takes.early;
  counts = takes.counts;
  before = takes.before;
  ends = takes.ends;
  cuts_before = takes.cuts_before;
  cut_ends = takes.cut_ends;
  ended = takes.ended;
  cut = takes.cut;
}

-- nor which marks stand
pub takes_standing : (time : ℕ) (found : FoundInSlot) (old mid new : RaceGroups) → TakesSlot time found old mid →
    new ≡ record mid { standing = new.standing } → TakesSlot time found old new
takes_standing time found old mid new takes is = subst (TakesSlot time found old) (sym is) (record {
  traced = takes.traced;
  scope = takes.scope;
  adds = takes.adds;
  early = takes.early;
  counts = takes.counts;
  before = takes.before;
  ends = takes.ends;
  cuts_before = takes.cuts_before;
  cut_ends = takes.cut_ends;
  ended = takes.ended;
  cut = takes.cut;
})

-- ---- it grows

pub grows_by : (tracing : Tracing) (P : Difference → Type 0) (old new : List GroupHead) → Adds tracing P old new → GrowsTo old new
grows_by tracing P old new adds = (adds.more, adds.is)

pub grows_all : (old new : RaceGroups) (mid : List Group) → traced_by new ≡ traced_by old → new.scope ≡ old.scope →
    new.ended ≡ old.ended → new.cut_runs ≡ old.cut_runs →
    GrowsTo (group_heads old.groups.items) (group_heads mid) → GrowsTo (group_heads mid) (group_heads new.groups.items) →
    CountsStill old.scope.names old.groups.items mid →
    CountsStill old.scope.names mid new.groups.items →
    GrowsTo old.ends.items new.ends.items → GrowsTo old.cut_ends.items new.cut_ends.items → GrowsBehind old new
grows_all old new mid traced scope ended cut one other count_one count_other ends cut_ends = record {
  traced = traced;
  scope = scope;
  still = still_on old.scope.names old.groups.items mid new.groups.items count_one count_other;
  groups = grows_on (group_heads old.groups.items) (group_heads mid) (group_heads new.groups.items) one other;
  ends = ends;
  cut_ends = cut_ends;
  ended = λ e. sym ended ∙ e;
  cut = λ e. sym cut ∙ e;
}

-- whichever marks stand
pub grows_standing : (old mid new : RaceGroups) → GrowsBehind old mid → new ≡ record mid { standing = new.standing } →
    GrowsBehind old new
grows_standing old mid new grows is = subst (GrowsBehind old) (sym is) (record {
  traced = grows.traced;
  scope = grows.scope;
  groups = grows.groups;
  still = grows.still;
  ends = grows.ends;
  cut_ends = grows.cut_ends;
  ended = grows.ended;
  cut = grows.cut;
})

-- where what else the slot changed before stands in `mid`
pub grows_late : (old mid new : RaceGroups) → traced_by mid ≡ traced_by old → mid.scope ≡ old.scope → mid.groups.items ≡ old.groups.items →
    mid.ends.items ≡ old.ends.items → mid.cut_ends.items ≡ old.cut_ends.items → (mid.ended ≡ false → old.ended ≡ false) →
    (mid.cut_runs ≡ false → old.cut_runs ≡ false) → GrowsBehind mid new → GrowsBehind old new
grows_late old mid new traced scope same ends cut_ends ended cut grows = record {
  traced = grows.traced ∙ traced;
  scope = grows.scope ∙ scope;
  still = subst (λ (s : Scope). CountsStill s.names old.groups.items new.groups.items) scope
      (subst (λ (l : List Group). CountsStill mid.scope.names l new.groups.items) same grows.still);
  groups = subst (λ (l : List Group). GrowsTo (group_heads l) (group_heads new.groups.items)) same grows.groups;
  ends = subst (λ (l : List (FoundMark MachineState)). GrowsTo l new.ends.items) ends grows.ends;
  cut_ends = subst (λ (l : List (FoundMark MachineState)). GrowsTo l new.cut_ends.items) cut_ends grows.cut_ends;
  ended = λ e. ended (grows.ended e);
  cut = λ e. cut (grows.cut e);
}

-- what grew is cut back
pub back_again : (old mid new : RaceGroups) (g e k : ℕ) → g ≡ length old.groups.items → e ≡ length old.ends.items →
    k ≡ length old.cut_ends.items → GrowsBehind old mid → traced_by new ≡ traced_by mid → new.scope ≡ mid.scope →
    new.groups.items ≡ take g mid.groups.items → new.ends.items ≡ take e mid.ends.items →
    new.cut_ends.items ≡ take k mid.cut_ends.items → new.ended ≡ mid.ended → new.cut_runs ≡ mid.cut_runs →
    new.standing.items ≡ old.standing.items → StaysSo old new
back_again old mid new g e k g_is e_is k_is grows traced scope groups ends cut_ends ended cut stands =
    let len : length (group_heads old.groups.items) ≡ length old.groups.items = length-map old.groups.items group_head in
    record {
      traced = traced ∙ grows.traced;
      scope = scope ∙ grows.scope;
      still = subst (CountsStill old.scope.names old.groups.items) (sym (groups ∙ ap (λ (n : ℕ). take n mid.groups.items) g_is))
          (take_still old.scope.names old.groups.items mid.groups.items grows.still);
      groups = ap group_heads (groups ∙ ap (λ (n : ℕ). take n mid.groups.items) g_is)
          ∙ sym (take-map group_head (length old.groups.items) mid.groups.items) ∙ ap (take (length old.groups.items)) grows.groups.1
          ∙ ap (λ (n : ℕ). take n (group_heads old.groups.items ++ grows.groups.0)) (sym len)
          ∙ take-append_seam (group_heads old.groups.items) grows.groups.0;
      ends = ends ∙ ap (λ (n : ℕ). take n mid.ends.items) e_is ∙ ap (take (length old.ends.items)) grows.ends.1
          ∙ take-append_seam old.ends.items grows.ends.0;
      cut_ends = cut_ends ∙ ap (λ (n : ℕ). take n mid.cut_ends.items) k_is ∙ ap (take (length old.cut_ends.items)) grows.cut_ends.1
          ∙ take-append_seam old.cut_ends.items grows.cut_ends.0;
      ended = λ none. grows.ended (sym ended ∙ none);
      cut = λ none. grows.cut (sym cut ∙ none);
      standing = stands;
    }
