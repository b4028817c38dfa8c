-- What is kept of closed slots, once one more was closed.
use Rattle.std.proofs.Common.{◌≡◌, ℕ, zero, suc, ◌+◌, ◌<◌, ◌⊎◌, List, [], ◌∷◌, ◌++◌, length, slice_get, Option, Some, Result, Ok, Err, OnErr, refl, sym, ap, ◌∙◌, subst, inl, inr, append-nil, append_assoc, arith}
use Rattle.std.specs.List.{Contains}
use Rattle.std.proofs.lemmas.List.{map-append}
use Rattle.std.proofs.lemmas.List.Elements.{Contains-append_left, Contains-append_right, Contains-append_cases}
use Rattle.std.proofs.lemmas.Option.{slice_get_within, same_Some}
use Rattle.basis.proofs.Lists.{at_contains, listed_place, stands_in_front, stands_last}
use Rattle.explore.specs.Ranked.{Closing, CollectsMore, StaysAs, pairs_of}
use Rattle.explore.specs.declared.rank_marks.FoundMark.{FoundMark}
use Rattle.vmodel.specs.Run.{Setting}
use Rattle.vmachine.specs.declared.machine_state.MachineState.{MachineState}
use Rattle.racebook.specs.declared.slot_state.SlotState.{SlotState}
use Rattle.racebook.specs.declared.slots.ClosedSlots.{ClosedSlots}
use Rattle.racebook.specs.declared.slots.FoundInSlot.{FoundInSlot}
use Rattle.racebook.specs.Races.{Race}
use Rattle.racebook.specs.LineRaces.{LineRace}
use Rattle.racebook.specs.Inner.{AreAll, AreAllLineRaces, AreAllRaces, AreEndsOf, AreInTurn, AreKept, AreLineRacesOf, AreRacesOf, AreShown, AreSlotStates, CollectsSlots, DifferIn, DifferInLines, Disagree, IsFoundIn, IsLineRaceAmong, IsPutBehind, IsRaceAmong, IsSeen, IsSlotState, KeepsSame, StandsAt, marks_of, place_of, place_of_lines, printed_of, value_of}
use Rattle.racebook.proofs.EndLemmas.{ends_of_both, no_ends}
use Rattle.racebook.proofs.FoundLemmas.{slot_ends}
use Rattle.racebook.proofs.ListLemmas.{at_second, in_either}

-- ---- slot states of earlier times, and of one time

module _ (gs hs : List SlotState) (now : ℕ) (earlier : (g : SlotState) → Contains gs g → g.time < now) (here : (g : SlotState) → Contains hs g → g.time ≡ now) where
  module _ {V : Type 0} (shown : SlotState → Option V) where
    in_first : (time : ℕ) (v : V) (log : List (ℕ × ℕ)) → IsSeen shown gs time v log → IsSeen shown (gs ++ hs) time v log
    in_first time v log seen = record {
      slot_state = seen.slot_state;
      among = Contains-append_left gs hs seen.slot_state seen.among;
      time_is = seen.time_is;
      value_is = seen.value_is;
      log_is = seen.log_is;
    }

    in_second : (time : ℕ) (v : V) (log : List (ℕ × ℕ)) → IsSeen shown hs time v log → IsSeen shown (gs ++ hs) time v log
    in_second time v log seen = record {
      slot_state = seen.slot_state;
      among = Contains-append_right gs hs seen.slot_state seen.among;
      time_is = seen.time_is;
      value_is = seen.value_is;
      log_is = seen.log_is;
    }

    -- what is seen at an earlier time is seen in the first
    of_first : (time : ℕ) (v : V) (log : List (ℕ × ℕ)) → time < now → IsSeen shown (gs ++ hs) time v log → IsSeen shown gs time v log
    of_first time v log lt seen = record {
      slot_state = seen.slot_state;
      among = elim (Contains-append_cases gs hs seen.slot_state seen.among) [
        | inl first ↦ first
        | inr second ↦ absurd (let e = here seen.slot_state second in let f = seen.time_is in omega arith)
      ];
      time_is = seen.time_is;
      value_is = seen.value_is;
      log_is = seen.log_is;
    }

    -- and at this time in the second
    of_second : (time : ℕ) (v : V) (log : List (ℕ × ℕ)) → time ≡ now → IsSeen shown (gs ++ hs) time v log → IsSeen shown hs time v log
    of_second time v log is seen = record {
      slot_state = seen.slot_state;
      among = elim (Contains-append_cases gs hs seen.slot_state seen.among) [
        | inl first ↦ absurd (let lt = earlier seen.slot_state first in let f = seen.time_is in omega arith)
        | inr second ↦ second
      ];
      time_is = seen.time_is;
      value_is = seen.value_is;
      log_is = seen.log_is;
    }

    shown_first : {AreInOrder : List (V × List (ℕ × ℕ)) → Type 0} (time : ℕ) (values : List (V × List (ℕ × ℕ))) →
        AreShown shown AreInOrder gs time values → (time < now) × AreShown shown AreInOrder (gs ++ hs) time values
    shown_first time values are =
        let two = are.two in
        let s = listed_place values 0 (omega arith) in
        let seen = are.seen 0 s.0 s.1 in
        let before = earlier seen.slot_state seen.among in
        let same = seen.time_is in
        let lt : time < now = omega arith in (
          lt,
          record {
            two = are.two;
            seen = λ i s at. in_first time s.0 s.1 (are.seen i s at);
            fewest = λ i s log at seen. are.fewest i s log at (of_first time s.0 log lt seen);
            all = λ value log seen. are.all value log (of_first time value log lt seen);
            order = are.order;
          },
        )

    shown_second : {AreInOrder : List (V × List (ℕ × ℕ)) → Type 0} (time : ℕ) (values : List (V × List (ℕ × ℕ))) →
        AreShown shown AreInOrder hs time values → (time ≡ now) × AreShown shown AreInOrder (gs ++ hs) time values
    shown_second time values are =
        let two = are.two in
        let s = listed_place values 0 (omega arith) in
        let seen = are.seen 0 s.0 s.1 in
        let is : time ≡ now = sym seen.time_is ∙ here seen.slot_state seen.among in (
          is,
          record {
            two = are.two;
            seen = λ i s at. in_second time s.0 s.1 (are.seen i s at);
            fewest = λ i s log at seen. are.fewest i s log at (of_second time s.0 log is seen);
            all = λ value log seen. are.all value log (of_second time value log is seen);
            order = are.order;
          },
        )

    -- two that disagree are both of the first or both of the second
    disagree_either : (time : ℕ) → Disagree shown (gs ++ hs) time → Disagree shown gs time ⊎ Disagree shown hs time
    disagree_either time d = elim (Contains-append_cases gs hs d.sees_one.slot_state d.sees_one.among) [
      | inl first ↦
          let before = earlier d.sees_one.slot_state first in
          let same = d.sees_one.time_is in
          let lt : time < now = omega arith in
          inl (record {
            one = d.one;
            other = d.other;
            log = d.log;
            other_log = d.other_log;
            sees_one = of_first time d.one d.log lt d.sees_one;
            sees_other = of_first time d.other d.other_log lt d.sees_other;
            differ = d.differ;
          })
      | inr second ↦
          let is : time ≡ now = sym d.sees_one.time_is ∙ here d.sees_one.slot_state second in
          inr (record {
            one = d.one;
            other = d.other;
            log = d.log;
            other_log = d.other_log;
            sees_one = of_second time d.one d.log is d.sees_one;
            sees_other = of_second time d.other d.other_log is d.sees_other;
            differ = d.differ;
          })
    ]

  -- ---- races of both

  module _ {R : Type 0} (place : R → ℕ × ℕ) (First Second Is : R → Type 0) (DifferFirst DifferSecond Differ : ℕ → ℕ → Type 0)
      (is_first : (race : R) → First race → ((place race).0 < now) × Is race) (is_second : (race : R) → Second race → ((place race).0 ≡ now) × Is race)
      (differ : (t n : ℕ) → Differ t n → DifferFirst t n ⊎ DifferSecond t n) where
    all_of_both : (races more : List R) → AreAll place First DifferFirst races → AreAll place Second DifferSecond more → AreAll place Is Differ (races ++ more)
    all_of_both races more first second = record {
      each = λ i race at. elim (in_either races more i race at) [
        | inl before ↦ (is_first race (first.each i race before)).1
        | inr behind ↦ (is_second race (second.each behind.0 race behind.2)).1
      ];
      all = λ t n d. elim (differ t n d) [
        | inl before ↦ (let l = first.all t n before in (l.0, l.1, stands_in_front races more l.0 l.1 l.2, l.3, l.4))
        | inr behind ↦ (let l = second.all t n behind in (length races + l.0, l.1, at_second races more l.0 l.1 l.2, l.3, l.4))
      ];
      order = λ i j a b lt at at'. elim (in_either races more i a at) [
        | inl before ↦ elim (in_either races more j b at') [
          | inl also ↦ first.order i j a b lt before also
          | inr behind ↦
              let s = (is_first a (first.each i a before)).0 in
              let e = (is_second b (second.each behind.0 b behind.2)).0 in
              inl (omega arith)
        ]
        | inr behind ↦ elim (in_either races more j b at') [
          | inl before ↦ absurd (let within = slice_get_within races j b before in let e = behind.1 in omega arith)
          | inr also ↦ (let e = behind.1 in let f = also.1 in second.order behind.0 also.0 a b (omega arith) behind.2 also.2)
        ]
      ];
    }

  races_of_both : (races more : List Race) → AreAllRaces gs races → AreAllRaces hs more → AreAllRaces (gs ++ hs) (races ++ more)
  races_of_both = all_of_both place_of (IsRaceAmong gs) (IsRaceAmong hs) (IsRaceAmong (gs ++ hs)) (DifferIn gs) (DifferIn hs) (DifferIn (gs ++ hs))
      (λ race r. shown_first (value_of race.variable) race.time race.values r)
      (λ race r. shown_second (value_of race.variable) race.time race.values r)
      (λ t n d. disagree_either (value_of n) t d)

  lines_of_both : (races more : List LineRace) → AreAllLineRaces gs races → AreAllLineRaces hs more → AreAllLineRaces (gs ++ hs) (races ++ more)
  lines_of_both = all_of_both place_of_lines (IsLineRaceAmong gs) (IsLineRaceAmong hs) (IsLineRaceAmong (gs ++ hs)) (DifferInLines gs) (DifferInLines hs) (DifferInLines (gs ++ hs))
      (λ race r. shown_first printed_of race.time race.sides r)
      (λ race r. shown_second printed_of race.time race.sides r)
      (λ t n d. elim (disagree_either printed_of t d.0) [
        | inl first ↦ inl (first, d.1)
        | inr second ↦ inr (second, d.1)
      ])

-- ---- slot states of both

states_of_both : (setting : Setting) (marks more : List (MachineState × List (ℕ × ℕ))) (gs hs : List SlotState) → AreSlotStates setting marks gs → AreSlotStates setting more hs →
    AreSlotStates setting (marks ++ more) (gs ++ hs)
states_of_both setting marks more gs hs first second = record {
  each = λ g has. elim (Contains-append_cases gs hs g has) [
    | inl a ↦ (let o = first.each g a in record { place = o.place; found = o.found; at = stands_in_front marks more o.place o.found o.at; of = o.of })
    | inr b ↦ (let o = second.each g b in record { place = length marks + o.place; found = o.found; at = at_second marks more o.place o.found o.at; of = o.of })
  ];
  whole = λ i found t time lt at st wide slot. elim (in_either marks more i found at) [
    | inl a ↦ (let h = first.whole i found t time (slice_get_within marks i found a) a st wide slot in
        record { slot_state = h.slot_state; among = Contains-append_left gs hs h.slot_state h.among; of = h.of })
    | inr b ↦ (let h = second.whole b.0 found t time (slice_get_within more b.0 found b.2) b.2 st wide slot in
        record { slot_state = h.slot_state; among = Contains-append_right gs hs h.slot_state h.among; of = h.of })
  ];
}

-- ---- marks of closings

-- the mark is of this closing
pub record IsOfClosing (closings : List (Closing MachineState)) (found : MachineState × List (ℕ × ℕ)) : Type 0 where
  pub place : ℕ
  pub closing : Closing MachineState
  pub at : slice_get closings place ≡ Some closing
  pub mark_place : ℕ
  pub mark_at : slice_get closing.marks mark_place ≡ Some found

pub closing_of : (closings : List (Closing MachineState)) (i : ℕ) (found : MachineState × List (ℕ × ℕ)) → slice_get (marks_of closings) i ≡ Some found → IsOfClosing closings found
closing_of [] i found at = absurd (cc)
closing_of (c ∷ closings) i found at = elim (in_either c.marks (marks_of closings) i found at) [
  | inl here ↦ record { place = 0; closing = c; at = refl; mark_place = i; mark_at = here }
  | inr later ↦ (let o = closing_of closings later.0 found later.2 in record { place = suc o.place; closing = o.closing; at = o.at; mark_place = o.mark_place; mark_at = o.mark_at })
]

pub mark_of_closing : (closings : List (Closing MachineState)) (place : ℕ) (c : Closing MachineState) (i : ℕ) (found : MachineState × List (ℕ × ℕ)) →
    slice_get closings place ≡ Some c → slice_get c.marks i ≡ Some found → (j : ℕ) × (slice_get (marks_of closings) j ≡ Some found)
mark_of_closing [] place c i found at there = absurd (cc)
mark_of_closing (d ∷ closings) zero c i found at there =
    let e : d ≡ c = same_Some d c at in
    (i, stands_in_front d.marks (marks_of closings) i found (ap (λ (x : Closing MachineState). slice_get x.marks i) e ∙ there))
mark_of_closing (d ∷ closings) (suc place) c i found at there =
    let m = mark_of_closing closings place c i found at there in
    (length d.marks + m.0, at_second d.marks (marks_of closings) m.0 found m.1)

marks_more : (closings : List (Closing MachineState)) (c : Closing MachineState) → marks_of (closings ++ c ∷ []) ≡ marks_of closings ++ c.marks
marks_more [] c = append-nil c.marks
marks_more (d ∷ closings) c = ap (λ l. d.marks ++ l) (marks_more closings c) ∙ sym (append_assoc d.marks (marks_of closings) c.marks)

-- the slot state has the time at which its mark stands
pub slot_time : (setting : Setting) (found : MachineState × List (ℕ × ℕ)) (g : SlotState) (time : ℕ) → IsSlotState setting found g → StandsAt setting found.0 time → g.time ≡ time
slot_time setting found g time of (t, st, is) = sym (slot_ends t g.time (of.slot t st)).time_is ∙ is

module _ (setting : Setting) (closings : List (Closing MachineState)) (c : Closing MachineState) (turn : AreInTurn setting (closings ++ c ∷ [])) where
  in_turn_before : AreInTurn setting closings
  in_turn_before = record {
    rise = λ i j a b lt at at'. turn.rise i j a b lt (stands_in_front closings (c ∷ []) i a at) (stands_in_front closings (c ∷ []) j b at');
    times = λ i a at. turn.times i a (stands_in_front closings (c ∷ []) i a at);
  }

  time_before : (gs : List SlotState) → AreSlotStates setting (marks_of closings) gs → (g : SlotState) → Contains gs g → g.time < c.rank
  time_before gs are g has =
      let o = are.each g has in
      let in_one = closing_of closings o.place o.found o.at in
      let is = slot_time setting o.found g in_one.closing.rank o.of (in_turn_before.times in_one.place in_one.closing in_one.at in_one.mark_place o.found in_one.mark_at) in
      let lt = turn.rise in_one.place (length closings) in_one.closing c (slice_get_within closings in_one.place in_one.closing in_one.at) (stands_in_front closings (c ∷ []) in_one.place in_one.closing in_one.at) (stands_last closings c) in
      omega arith

  time_here : (hs : List SlotState) → AreSlotStates setting c.marks hs → (g : SlotState) → Contains hs g → g.time ≡ c.rank
  time_here hs are g has =
      let o = are.each g has in
      slot_time setting o.found g c.rank o.of (turn.times (length closings) c (stands_last closings c) o.place o.found o.at)

  races_more : (races more : List Race) → (AreInTurn setting closings → AreRacesOf setting (marks_of closings) races) → AreRacesOf setting c.marks more →
      AreRacesOf setting (marks_of (closings ++ c ∷ [])) (races ++ more)
  races_more races more before last =
      let first = before in_turn_before in
      let both : AreRacesOf setting (marks_of closings ++ c.marks) (races ++ more) = record {
        slot_states = first.slot_states ++ last.slot_states;
        are = states_of_both setting (marks_of closings) c.marks first.slot_states last.slot_states first.are last.are;
        all = races_of_both first.slot_states last.slot_states c.rank (time_before first.slot_states first.are) (time_here last.slot_states last.are) races more first.all last.all;
      } in
      subst (λ (marks : List (MachineState × List (ℕ × ℕ))). AreRacesOf setting marks (races ++ more)) (sym (marks_more closings c)) both

  line_races_more : (races more : List LineRace) → (AreInTurn setting closings → AreLineRacesOf setting (marks_of closings) races) → AreLineRacesOf setting c.marks more →
      AreLineRacesOf setting (marks_of (closings ++ c ∷ [])) (races ++ more)
  line_races_more races more before last =
      let first = before in_turn_before in
      let both : AreLineRacesOf setting (marks_of closings ++ c.marks) (races ++ more) = record {
        slot_states = first.slot_states ++ last.slot_states;
        are = states_of_both setting (marks_of closings) c.marks first.slot_states last.slot_states first.are last.are;
        all = lines_of_both first.slot_states last.slot_states c.rank (time_before first.slot_states first.are) (time_here last.slot_states last.are) races more first.all last.all;
      } in
      subst (λ (marks : List (MachineState × List (ℕ × ℕ))). AreLineRacesOf setting marks (races ++ more)) (sym (marks_more closings c)) both

-- ---- what is kept

pub kept_more : (setting : Setting) (closings : List (Closing MachineState)) (c : Closing MachineState) (races more : List Race) (line_races more_lines : List LineRace) (ends more_ends : List (MachineState × List (ℕ × ℕ))) →
    AreRacesOf setting c.marks more → AreLineRacesOf setting c.marks more_lines → AreEndsOf setting c.marks more_ends →
    AreKept setting races line_races ends closings → AreKept setting (races ++ more) (line_races ++ more_lines) (ends ++ more_ends) (closings ++ c ∷ [])
kept_more setting closings c races more line_races more_lines ends more_ends last last_lines last_ends kept = record {
  of_values = λ turn. races_more setting closings c turn races more kept.of_values last;
  of_lines = λ turn. line_races_more setting closings c turn line_races more_lines kept.of_lines last_lines;
  of_ends = subst (λ (marks : List (MachineState × List (ℕ × ℕ))). AreEndsOf setting marks (ends ++ more_ends)) (sym (marks_more closings c))
      (ends_of_both setting (marks_of closings) c.marks ends more_ends kept.of_ends last_ends);
}

no_states : (setting : Setting) → AreSlotStates setting [] []
no_states setting = record {
  each = λ g has. absurd (let p = at_contains [] g has in cc);
  whole = λ i found t time lt at st wide slot. absurd (cc);
}

nothing_differs : {V : Type 0} (shown : SlotState → Option V) (time : ℕ) → Disagree shown [] time → ⊥
nothing_differs shown time d = let p = at_contains [] d.sees_one.slot_state d.sees_one.among in let q = p.1 in absurd cc

pub kept_none : (setting : Setting) → AreKept setting [] [] [] []
kept_none setting = record {
  of_values = λ turn. record {
    slot_states = [];
    are = no_states setting;
    all = record { each = λ i race at. absurd (cc); all = λ t n d. absurd (nothing_differs (value_of n) t d); order = λ i j a b lt at at'. absurd (cc) };
  };
  of_lines = λ turn. record {
    slot_states = [];
    are = no_states setting;
    all = record { each = λ i race at. absurd (cc); all = λ t n d. absurd (nothing_differs printed_of t d.0); order = λ i j a b lt at at'. absurd (cc) };
  };
  of_ends = no_ends setting;
}

-- ---- what the slots keep

pub none_kept : (setting : Setting) (races : List Race) (line_races : List LineRace) (ends : List (FoundMark MachineState)) → races ≡ [] → line_races ≡ [] → ends ≡ [] → AreKept setting races line_races (pairs_of ends) []
none_kept setting races line_races ends no_races no_lines none =
    let P : List Race → List LineRace → List (FoundMark MachineState) → Type 0 = λ r l e. AreKept setting r l (pairs_of e) [] in
    subst (λ (r : List Race). P r line_races ends) (sym no_races)
    (subst (λ (l : List LineRace). P [] l ends) (sym no_lines)
    (subst (λ (e : List (FoundMark MachineState)). P [] [] e) (sym none) (kept_none setting)))

-- where the same is kept no more was collected
pub collects_same : (old new : ClosedSlots) → KeepsSame old new → StaysAs CollectsSlots old new
collects_same old new same = λ first closings collected.
    record {
      machine = same.machine ∙ collected.machine;
      kept = λ before kept.
          (let P : List Race → List LineRace → List (FoundMark MachineState) → Type 0 = λ r l e. AreKept first.machine.now r l (pairs_of e) (before ++ closings) in
          subst (λ (r : List Race). P r new.line_races.items new.ends.items) (sym same.races)
          (subst (λ (l : List LineRace). P old.races.items l new.ends.items) (sym same.line_races)
          (subst (λ (e : List (FoundMark MachineState)). P old.races.items old.line_races.items e) (sym same.ends) (collected.kept before kept))));
    }

-- one slot more
pub collects_more : (old new : ClosedSlots) (c : Closing MachineState) (found : FoundInSlot) → IsFoundIn old.machine.now c.marks found → IsPutBehind old found new → CollectsMore CollectsSlots old c new
collects_more old new c found of put = λ first closings collected.
    record {
      machine = put.machine ∙ collected.machine;
      kept = λ before kept.
          (let all = before ++ closings in
          let is = subst (λ (s : Setting). IsFoundIn s c.marks found) collected.machine of in
          let k = kept_more first.machine.now all c old.races.items found.races.items old.line_races.items found.line_races.items (pairs_of old.ends.items) (pairs_of found.ends.items)
          is.races is.line_races is.ends (collected.kept before kept) in
          let e : pairs_of new.ends.items ≡ pairs_of old.ends.items ++ pairs_of found.ends.items = ap pairs_of put.ends ∙ map-append (λ (f : FoundMark MachineState). (f.state, f.log)) old.ends.items found.ends.items in
          let P : List Race → List LineRace → List (MachineState × List (ℕ × ℕ)) → List (Closing MachineState) → Type 0 = λ r l x cs. AreKept first.machine.now r l x cs in
          let behind = before ++ (closings ++ c ∷ []) in
          subst (λ (r : List Race). P r new.line_races.items (pairs_of new.ends.items) behind) (sym put.races)
          (subst (λ (l : List LineRace). P (old.races.items ++ found.races.items) l (pairs_of new.ends.items) behind) (sym put.line_races)
          (subst (λ (x : List (MachineState × List (ℕ × ℕ))). P (old.races.items ++ found.races.items) (old.line_races.items ++ found.line_races.items) x behind) (sym e)
          (subst (λ (cs : List (Closing MachineState)). P (old.races.items ++ found.races.items) (old.line_races.items ++ found.line_races.items) (pairs_of old.ends.items ++ pairs_of found.ends.items) cs) (append_assoc before closings (c ∷ [])) k))));
    }

pub collects_no_more : {U E : Type 0} (now : ClosedSlots) (result : Result U E) → OnErr result (StaysAs CollectsSlots now now)
collects_no_more now (Ok u) = tt
collects_no_more now (Err e) = λ first closings collected. collected
