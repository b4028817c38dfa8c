-- Slot states and the runs that they are of.
use Rattle.std.proofs.Common.{◌≡◌, ◌≢◌, ℕ, ◌+◌, ◌<◌, ◌≤◌, ◌⊎◌, ◌==◌, ◌&&◌, ◌||◌, Bool, true, false, cond, is_some, is_none, List, [], ◌∷◌, ◌++◌, length, slice_get, get_or, Option, Some, None, option_map, refl, sym, ap, ◌∙◌, subst, inl, inr, arith}
use Rattle.std.specs.List.{Contains}
use Rattle.std.specs.List.Sorted.{IsNonDecreasingBy}
use Rattle.std.proofs.lemmas.Bool.{cases_lt}
use Rattle.std.proofs.lemmas.List.Elements.{Contains-append_left, Contains-push, Contains-push_cases}
use Rattle.std.proofs.lemmas.List.{length-map}
use Rattle.std.proofs.lemmas.Option.{slice_get-map, slice_get_within, get_or_from_slice_get, same_Some}
use Rattle.basis.proofs.Lists.{empty_from_test}
use Rattle.vbits.specs.Vectors.{Vector}
use Rattle.sched_core.specs.Rules.{IsRun, NamesBelow, stands}
use Rattle.statebook.specs.Covered.{IsCovered}
use Rattle.statebook.specs.declared.limits.Limits.{Limits}
use Rattle.explore.specs.Found.{AreFound, IsListedMark}
use Rattle.explore.specs.Ranked.{pairs_of}
use Rattle.explore.specs.declared.rank_marks.FoundMark.{FoundMark}
use Rattle.sched_core.specs.declared.end.Cause.{Cause}
use Rattle.vmodel.specs.State.{State}
use Rattle.vmodel.specs.Run.{Setting, rules_of, state_after, is_mark}
use Rattle.vmodel.specs.SlotEnds.{IsSlotEnd}
use Rattle.vmachine.specs.declared.machine_state.MachineState.{MachineState}
use Rattle.vmachine.specs.Machines.{Stands, machine_rules}
use Rattle.vmachine.specs.Reads.{slot_in}
use Rattle.racebook.specs.declared.slot_state.SlotState.{SlotState}
use Rattle.racebook.specs.Order.{AreInTextOrder, IsEarlier, IsTextBefore}
use Rattle.racebook.specs.Races.{Race, EachRace, HasFewest, IsRace, ShowsValue, SomeRunShows, TwoRunsDiffer, IsWitness, ListsValue}
use Rattle.racebook.specs.LineRaces.{LineRace, Texts, AreAllSidesInOrder, AreLineRacesInOrder, EachLineRace, HasFewestOfLines, IsLineRace, IsLinesWitness, ListsLines, ShowsLines, SomeRunPrints, TwoRunsPrint}
use Rattle.racebook.specs.Inner.{AreAllLineRaces, AreAllRaces, AreShown, AreSlotStates, AreSlotStatesBelow, AreInTime, AreWide, Disagree, GoesOnBy, IsSlotState, IsNoSlot, IsOfSome, IsSeen, printed_of, value_of}

-- ---- what stands at the end of a slot

zero_length : {A : Type 0} (xs : List A) → xs ≡ [] → (length xs == 0) ≡ true
zero_length xs e = ap (λ ys. length ys == 0) e

record Ended (o : Option Cause) (a b : Bool) (n m : ℕ) : Type 0 where
  goes_on : o ≡ None
  first : a ≡ true
  second : b ≡ true
  same : n ≡ m

ended : (o : Option Cause) (a b : Bool) (n m : ℕ) → cond ((is_some o || (a && b)) && is_none o) (Some n) None ≡ Some m → Ended o a b n m
ended None true true n m e = record { goes_on = refl; first = refl; second = refl; same = same_Some n m e }
ended None true false n m e = absurd (cc)
ended None false b n m e = absurd (cc)
ended (Some c) a b n m e = absurd (cc)

ended_back : (o : Option Cause) (a b : Bool) (n : ℕ) → o ≡ None → a ≡ true → b ≡ true → cond ((is_some o || (a && b)) && is_none o) (Some n) None ≡ Some n
ended_back o a b n h f g = rw (h, f, g) refl

marked : (o : Option Cause) (a b : Bool) → a ≡ true → b ≡ true → (is_some o || (a && b)) ≡ true
marked None a b f g = rw (f, g) refl
marked (Some c) a b f g = refl

pub slot_ends : (t : State) (time : ℕ) → slot_in t ≡ Some time → IsSlotEnd time t.values t
slot_ends t time e =
    let h = ended t.cause (length t.queue.active == 0) (length t.queue.activated == 0) t.queue.time time e in
    record {
      goes_on = h.goes_on;
      idle = (empty_from_test t.queue.active h.first, empty_from_test t.queue.activated h.second);
      time_is = h.same;
      values_are = refl;
    }

pub ends_slot : (t : State) (time : ℕ) (values : List Vector) → IsSlotEnd time values t → slot_in t ≡ Some time
ends_slot t time values is =
    ended_back t.cause (length t.queue.active == 0) (length t.queue.activated == 0) t.queue.time is.goes_on
    (zero_length t.queue.active is.idle.0) (zero_length t.queue.activated is.idle.1) ∙ ap Some is.time_is

ends_mark : (t : State) (time : ℕ) (values : List Vector) → IsSlotEnd time values t → is_mark t ≡ true
ends_mark t time values is =
    marked t.cause (length t.queue.active == 0) (length t.queue.activated == 0) (zero_length t.queue.active is.idle.0) (zero_length t.queue.activated is.idle.1)

mark_of : (setting : Setting) (t : State) → (rules_of setting).mark t ≡ is_mark t
unfolding rules_of
mark_of setting t = refl

-- ---- all slot states

pub below_next : (i n : ℕ) → i < n + 1 → (i < n) ⊎ (i ≡ n)
below_next i n lt = elim (cases_lt i n) [
  | inl before ↦ inl before
  | inr from ↦ inr (omega arith)
]

pub slot_states_none : (setting : Setting) (marks : List (MachineState × List (ℕ × ℕ))) (gs new : List SlotState) (place : ℕ) → new ≡ gs → slice_get marks place ≡ None →
    AreSlotStatesBelow setting marks place gs → AreSlotStatesBelow setting marks (place + 1) new
slot_states_none setting marks gs new place is none below = subst (λ (xs : List SlotState). AreSlotStatesBelow setting marks (place + 1) xs) (sym is) (record {
  each = below.each;
  whole = λ i found t time lt at st wide slot. elim (below_next i place lt) [
    | inl before ↦ below.whole i found t time before at st wide slot
    | inr here ↦ absurd (let e : slice_get marks i ≡ None = ap (slice_get marks) here ∙ none in cc)
  ];
})

same_found : (marks : List (MachineState × List (ℕ × ℕ))) (i place : ℕ) (f g : MachineState × List (ℕ × ℕ)) → i ≡ place → slice_get marks i ≡ Some f → slice_get marks place ≡ Some g → g ≡ f
same_found marks i place f g here at at' = same_Some g f (sym at' ∙ ap (slice_get marks) (sym here) ∙ at)

slot_states_skip : (setting : Setting) (marks : List (MachineState × List (ℕ × ℕ))) (gs new : List SlotState) (place : ℕ) (mark : MachineState × List (ℕ × ℕ)) → new ≡ gs →
    slice_get marks place ≡ Some mark → IsNoSlot setting mark.0 → AreSlotStatesBelow setting marks place gs → AreSlotStatesBelow setting marks (place + 1) new
slot_states_skip setting marks gs new place mark is mark_at plain below = subst (λ (xs : List SlotState). AreSlotStatesBelow setting marks (place + 1) xs) (sym is) (record {
  each = below.each;
  whole = λ i found t time lt at st wide slot. elim (below_next i place lt) [
    | inl before ↦ below.whole i found t time before at st wide slot
    | inr here ↦ absurd (
        let e : mark ≡ found = same_found marks i place found mark here at mark_at in
        let none : slot_in t ≡ None = subst (λ (x : MachineState × List (ℕ × ℕ)). IsNoSlot setting x.0) e plain t st wide in cc)
  ];
})

slot_states_more : (setting : Setting) (marks : List (MachineState × List (ℕ × ℕ))) (gs new : List SlotState) (place : ℕ) (mark : MachineState × List (ℕ × ℕ)) (g : SlotState) →
    new ≡ gs ++ g ∷ [] → slice_get marks place ≡ Some mark → IsSlotState setting mark g → AreSlotStatesBelow setting marks place gs →
    AreSlotStatesBelow setting marks (place + 1) new
slot_states_more setting marks gs new place mark g is mark_at of below = subst (λ (xs : List SlotState). AreSlotStatesBelow setting marks (place + 1) xs) (sym is) (record {
  each = λ h has. elim (Contains-push_cases gs g h has) [
    | inl old ↦ below.each h old
    | inr new ↦ subst (λ (x : SlotState). IsOfSome setting marks x) new (record { place = place; found = mark; at = mark_at; of = of })
  ];
  whole = λ i found t time lt at st wide slot. elim (below_next i place lt) [
    | inl before ↦ (let h = below.whole i found t time before at st wide slot in
        record { slot_state = h.slot_state; among = Contains-append_left gs (g ∷ []) h.slot_state h.among; of = h.of })
    | inr here ↦ (let e : mark ≡ found = same_found marks i place found mark here at mark_at in
        record { slot_state = g; among = Contains-push gs g; of = subst (λ (x : MachineState × List (ℕ × ℕ)). IsSlotState setting x g) e of })
  ];
})

-- by one mark more
pub slot_states_on : (setting : Setting) (marks : List (MachineState × List (ℕ × ℕ))) (gs got new : List SlotState) (place : ℕ) (mark : MachineState × List (ℕ × ℕ)) → new ≡ got →
    slice_get marks place ≡ Some mark → GoesOnBy setting mark gs got → AreSlotStatesBelow setting marks place gs → AreSlotStatesBelow setting marks (place + 1) new
slot_states_on setting marks gs got new place mark same at (inl (is, plain)) below = slot_states_skip setting marks gs new place mark (same ∙ is) at plain below
slot_states_on setting marks gs got new place mark same at (inr (g, is, of)) below = slot_states_more setting marks gs new place mark g (same ∙ is) at of below

-- a mark of a list, and all of them
pub pair_at : (marks : List (FoundMark MachineState)) (place : ℕ) (found : FoundMark MachineState) → slice_get marks place ≡ Some found → slice_get (pairs_of marks) place ≡ Some (found.state, found.log)
pair_at marks place found at = slice_get-map (λ (f : FoundMark MachineState). (f.state, f.log)) marks place ∙ ap (option_map (λ (f : FoundMark MachineState). (f.state, f.log))) at

pub slot_states_all : (setting : Setting) (marks : List (FoundMark MachineState)) (gs : List SlotState) (count : ℕ) → length marks ≤ count → AreSlotStatesBelow setting (pairs_of marks) count gs →
    AreSlotStates setting (pairs_of marks) gs
slot_states_all setting marks gs count le below = record {
  each = below.each;
  whole = λ i found t time lt at st wide slot. (let long : length (pairs_of marks) ≡ length marks = length-map marks (λ (f : FoundMark MachineState). (f.state, f.log)) in below.whole i found t time (omega arith) at st wide slot);
}

pub slot_states_wide : (setting : Setting) (marks : List (MachineState × List (ℕ × ℕ))) (count : ℕ) (gs : List SlotState) → AreSlotStatesBelow setting marks count gs → AreWide (length setting.design.variables) gs
slot_states_wide setting marks count gs below = λ g has. (below.each g has).of.wide

pub in_time : (gs : List SlotState) → IsNonDecreasingBy (λ (g : SlotState). g.time) gs → AreInTime gs
in_time gs rise = λ i j g h le at at'.
    let within = slice_get_within gs j h at' in
    let up = rise i j g le within in
    let e : get_or gs i g ≡ g = get_or_from_slice_get gs i g g at in
    let f : get_or gs j g ≡ h = get_or_from_slice_get gs j h g at' in
    subst (λ (x : SlotState). g.time ≤ x.time) f (subst (λ (x : SlotState). x.time ≤ (get_or gs j g).time) e up)

-- ---- slot states and runs

abbrev pub Alike : Setting → Type 0
Alike setting = (s r : MachineState) (t : State) → Stands setting s t → (machine_rules setting).same r s ≡ true → Stands setting r t

abbrev pub AllStand : Setting → Type 0
AllStand setting = (log : List (ℕ × ℕ)) (n : ℕ) → Stands setting (stands (machine_rules setting) log n) (state_after setting log n)

abbrev pub RunThere : Setting → Type 0
RunThere setting = (log : List (ℕ × ℕ)) (n : ℕ) → IsRun (machine_rules setting) log n → IsRun (rules_of setting) log n

abbrev pub RunHere : Setting → Type 0
RunHere setting = (log : List (ℕ × ℕ)) (n : ℕ) → IsRun (rules_of setting) log n → IsRun (machine_rules setting) log n

abbrev pub MarkAlike : Setting → Type 0
MarkAlike setting = (s : MachineState) (t : State) → Stands setting s t → (machine_rules setting).mark s ≡ (rules_of setting).mark t

abbrev pub HasVariables : Setting → Type 0
HasVariables setting = (log : List (ℕ × ℕ)) (n : ℕ) → length (state_after setting log n).values ≡ length setting.design.variables

-- the run under the log stands, within the limits, at the end of the slot, with what its state shows
record IsReached (setting : Setting) (limits : Limits) (g : SlotState) (log : List (ℕ × ℕ)) : Type 0 where
  steps : ℕ
  run : IsRun (rules_of setting) log steps
  slot : IsSlotEnd g.time (state_after setting log steps).values (state_after setting log steps)
  values_are : g.values.now ≡ (state_after setting log steps).values
  printed_are : printed_of g ≡ (state_after setting log steps).printed
  within : steps ≤ limits.steps
  names : NamesBelow log steps
  short : length log ≤ limits.depart

reached : (setting : Setting) (limits : Limits) (marks : List (MachineState × List (ℕ × ℕ))) (gs : List SlotState) → Alike setting → AllStand setting → RunThere setting →
    AreFound (machine_rules setting) limits marks → AreSlotStates setting marks gs → (g : SlotState) → Contains gs g → IsReached setting limits g g.log.now
reached setting limits marks gs alike all there found are g among =
    let p = are.each g among in
    let f = found p.place p.found p.at in
    let t = state_after setting p.found.1 f.steps in
    let st : Stands setting p.found.0 t = alike (stands (machine_rules setting) p.found.1 f.steps) p.found.0 t (all p.found.1 f.steps) f.at in
    let here : IsReached setting limits g p.found.1 = record {
      steps = f.steps;
      run = there p.found.1 f.steps f.run;
      slot = slot_ends t g.time (p.of.slot t st);
      values_are = p.of.values_are t st;
      printed_are = p.of.printed_are t st;
      within = f.within;
      names = f.names;
      short = f.short;
    } in
    subst (λ (x : List (ℕ × ℕ)). IsReached setting limits g x) (sym p.of.log_is) here

-- what is seen is a witness
pub seen_witness : (setting : Setting) (limits : Limits) (marks : List (MachineState × List (ℕ × ℕ))) (gs : List SlotState) → Alike setting → AllStand setting → RunThere setting →
    AreFound (machine_rules setting) limits marks → AreSlotStates setting marks gs → (time variable : ℕ) (v : Vector) (log : List (ℕ × ℕ)) → IsSeen (value_of variable) gs time v log →
    IsWitness setting limits time variable v log
seen_witness setting limits marks gs alike all there found are time variable v log seen =
    let g = seen.slot_state in
    let r = reached setting limits marks gs alike all there found are g seen.among in
    let here : IsWitness setting limits g.time variable v g.log.now = record {
      steps = r.steps;
      shown = record {
        run = r.run;
        values = (state_after setting g.log.now r.steps).values;
        slot = r.slot;
        value_is = ap (λ (xs : List Vector). slice_get xs variable) (sym r.values_are) ∙ seen.value_is;
      };
      within = r.within;
      names = r.names;
      short = r.short;
    } in
    subst (λ (x : ℕ). IsWitness setting limits x variable v log) seen.time_is (subst (λ (x : List (ℕ × ℕ)). IsWitness setting limits g.time variable v x) seen.log_is here)

pub lines_witness : (setting : Setting) (limits : Limits) (marks : List (MachineState × List (ℕ × ℕ))) (gs : List SlotState) → Alike setting → AllStand setting → RunThere setting →
    AreFound (machine_rules setting) limits marks → AreSlotStates setting marks gs → (time : ℕ) (lines : Texts) (log : List (ℕ × ℕ)) → IsSeen printed_of gs time lines log →
    IsLinesWitness setting limits time lines log
lines_witness setting limits marks gs alike all there found are time lines log seen =
    let g = seen.slot_state in
    let r = reached setting limits marks gs alike all there found are g seen.among in
    let here : IsLinesWitness setting limits g.time lines g.log.now = record {
      steps = r.steps;
      shown = record {
        run = r.run;
        values = (state_after setting g.log.now r.steps).values;
        slot = r.slot;
        printed = sym r.printed_are ∙ seen.value_is;
      };
      within = r.within;
      names = r.names;
      short = r.short;
    } in
    subst (λ (x : ℕ). IsLinesWitness setting limits x lines log) seen.time_is (subst (λ (x : List (ℕ × ℕ)). IsLinesWitness setting limits g.time lines x) seen.log_is here)

-- what a run shows is seen, under a log of no more departures
pub record IsSeenWithin {V : Type 0} (shown : SlotState → Option V) (gs : List SlotState) (time : ℕ) (v : V) (departures : ℕ) : Type 0 where
  pub log : List (ℕ × ℕ)
  pub seen : IsSeen shown gs time v log
  pub short : length log ≤ departures

-- a slot state shows what the state does
record ShowsState (gs : List SlotState) (time : ℕ) (t : State) (departures : ℕ) : Type 0 where
  slot_state : SlotState
  among : Contains gs slot_state
  time_is : slot_state.time ≡ time
  values_are : slot_state.values.now ≡ t.values
  printed_are : printed_of slot_state ≡ t.printed
  short : length slot_state.log.now ≤ departures

-- every slot end of this time that a run within the limit of departures comes to is listed
abbrev pub AreEndsListed : Setting → ℕ → List (MachineState × List (ℕ × ℕ)) → ℕ → Type 0
AreEndsListed setting depart marks time = (values : List Vector) (log : List (ℕ × ℕ)) (steps : ℕ) → length log ≤ depart → IsRun (rules_of setting) log steps →
    IsSlotEnd time values (state_after setting log steps) → IsListedMark (machine_rules setting) marks (stands (machine_rules setting) log steps) (length log)

-- a slot end is a mark of the machine's run
pub end_marked : (setting : Setting) → AllStand setting → MarkAlike setting → (time : ℕ) (values : List Vector) (log : List (ℕ × ℕ)) (steps : ℕ) →
    IsSlotEnd time values (state_after setting log steps) → (machine_rules setting).mark (stands (machine_rules setting) log steps) ≡ true
end_marked setting all mark_alike time values log steps is =
    mark_alike (stands (machine_rules setting) log steps) (state_after setting log steps) (all log steps) ∙ mark_of setting (state_after setting log steps) ∙ ends_mark (state_after setting log steps) time values is

-- where all marks are listed, so are the slot ends of each time
pub ends_listed : (setting : Setting) (depart : ℕ) (marks : List (MachineState × List (ℕ × ℕ))) → AllStand setting → RunHere setting → MarkAlike setting →
    IsCovered (machine_rules setting) depart (IsListedMark (machine_rules setting) marks) → (time : ℕ) → AreEndsListed setting depart marks time
ends_listed setting depart marks all here mark_alike covered time = λ values log steps short run is.
    covered log steps short (here log steps run) (end_marked setting all mark_alike time values log steps is)

-- a slot state shows what such a slot end does
end_shown : (setting : Setting) (depart : ℕ) (marks : List (MachineState × List (ℕ × ℕ))) (gs : List SlotState) → Alike setting → AllStand setting → HasVariables setting → (time : ℕ) →
    AreEndsListed setting depart marks time → AreSlotStates setting marks gs → (values : List Vector) (log : List (ℕ × ℕ)) (steps : ℕ) →
    length log ≤ depart → IsRun (rules_of setting) log steps → IsSlotEnd time values (state_after setting log steps) → ShowsState gs time (state_after setting log steps) (length log)
end_shown setting depart marks gs alike all wide time listed are values log steps short run is =
    let s = stands (machine_rules setting) log steps in
    let t = state_after setting log steps in
    let l = listed values log steps short run is in
    let st : Stands setting l.found.0 t = alike s l.found.0 t (all log steps) l.same in
    let slot : slot_in t ≡ Some time = ends_slot t time values is in
    let h = are.whole l.place l.found t time (slice_get_within marks l.place l.found l.at) l.at st (wide log steps) slot in
    record {
      slot_state = h.slot_state;
      among = h.among;
      time_is = same_Some h.slot_state.time time (sym (h.of.slot t st) ∙ slot);
      values_are = h.of.values_are t st;
      printed_are = h.of.printed_are t st;
      short = subst (λ (x : List (ℕ × ℕ)). length x ≤ length log) (sym h.of.log_is) l.departures;
    }

pub shown_seen : (setting : Setting) (depart : ℕ) (marks : List (MachineState × List (ℕ × ℕ))) (gs : List SlotState) → Alike setting → AllStand setting → HasVariables setting → (time : ℕ) →
    AreEndsListed setting depart marks time → AreSlotStates setting marks gs →
    (variable : ℕ) (v : Vector) (log : List (ℕ × ℕ)) (steps : ℕ) → length log ≤ depart → ShowsValue setting time variable v log steps → IsSeenWithin (value_of variable) gs time v (length log)
shown_seen setting depart marks gs alike all wide time listed are variable v log steps short shown =
    let e = end_shown setting depart marks gs alike all wide time listed are shown.values log steps short shown.run shown.slot in
    let values : e.slot_state.values.now ≡ shown.values = e.values_are ∙ shown.slot.values_are in
    record {
      log = e.slot_state.log.now;
      seen = record {
        slot_state = e.slot_state;
        among = e.among;
        time_is = e.time_is;
        value_is = ap (λ (xs : List Vector). slice_get xs variable) values ∙ shown.value_is;
        log_is = refl;
      };
      short = e.short;
    }

pub lines_seen : (setting : Setting) (depart : ℕ) (marks : List (MachineState × List (ℕ × ℕ))) (gs : List SlotState) → Alike setting → AllStand setting → HasVariables setting → (time : ℕ) →
    AreEndsListed setting depart marks time → AreSlotStates setting marks gs →
    (lines : Texts) (log : List (ℕ × ℕ)) (steps : ℕ) → length log ≤ depart → ShowsLines setting time lines log steps → IsSeenWithin printed_of gs time lines (length log)
lines_seen setting depart marks gs alike all wide time listed are lines log steps short shown =
    let e = end_shown setting depart marks gs alike all wide time listed are shown.values log steps short shown.run shown.slot in
    record {
      log = e.slot_state.log.now;
      seen = record {
        slot_state = e.slot_state;
        among = e.among;
        time_is = e.time_is;
        value_is = e.printed_are ∙ shown.printed;
        log_is = refl;
      };
      short = e.short;
    }

-- two that are seen and differ
disagreement : {V : Type 0} (shown : SlotState → Option V) (gs : List SlotState) (time : ℕ) (v w : V) (m n : ℕ) → IsSeenWithin shown gs time v m → IsSeenWithin shown gs time w n → v ≢ w →
    Disagree shown gs time
disagreement shown gs time v w m n one other differ = record {
  one = v;
  other = w;
  log = one.log;
  other_log = other.log;
  sees_one = one.seen;
  sees_other = other.seen;
  differ = differ;
}

-- a log within the limit of departures is no shorter, as what its run shows is seen; and one beyond isn't either
fewest_by : {V : Type 0} {AreInOrder : List (V × List (ℕ × ℕ)) → Type 0} (shown : SlotState → Option V) (gs : List SlotState) (time depart : ℕ) (values : List (V × List (ℕ × ℕ))) (i : ℕ) (s : V × List (ℕ × ℕ)) (log : List (ℕ × ℕ)) →
    AreShown shown AreInOrder gs time values → slice_get values i ≡ Some s → length s.1 ≤ depart → (length log ≤ depart → IsSeenWithin shown gs time s.0 (length log)) → length s.1 ≤ length log
fewest_by shown gs time depart values i s log are at short see = elim (cases_lt depart (length log)) [
  | inl long ↦ omega arith
  | inr within ↦
      let seen = see within in
      let le = are.fewest i s seen.log at seen.seen in
      let le' = seen.short in
      omega arith
]

-- ---- the races

itself : (v : Vector) → IsTextBefore v v → ⊥
itself v (inl lt) = omega arith
itself v (inr same) = let lt = same.1 in omega arith

pub not_itself : (v w : Vector) → IsTextBefore v w → v ≡ w → ⊥
not_itself v w before e = itself v (subst (λ (x : Vector). IsTextBefore v x) (sym e) before)

pub races_found : (setting : Setting) (limits : Limits) (marks : List (MachineState × List (ℕ × ℕ))) (gs : List SlotState) (races : List Race) → Alike setting → AllStand setting → RunThere setting →
    AreFound (machine_rules setting) limits marks → AreSlotStates setting marks gs → AreAllRaces gs races → EachRace (IsRace setting limits) races
races_found setting limits marks gs races alike all there found are book = λ i race at.
    let r = book.each i race at in
    record {
      two = r.two;
      differ = λ i j s t lt here here'. not_itself s.0 t.0 (r.order i j s t lt here here');
      seen = λ i s here. seen_witness setting limits marks gs alike all there found are race.time race.variable s.0 s.1 (r.seen i s here);
    }

-- where slot states disagree, the race lists each value that is seen
pub listed : (gs : List SlotState) (races : List Race) → AreAllRaces gs races → (time variable : ℕ) (value : Vector) (log : List (ℕ × ℕ)) →
    Disagree (value_of variable) gs time → IsSeen (value_of variable) gs time value log → ListsValue races time variable value
listed gs races book time variable value log two seen =
    let l = book.all time variable two in
    let r = book.each l.0 l.1 l.2 in
    let there : IsSeen (value_of l.1.variable) gs l.1.time value log =
    subst (λ (x : ℕ). IsSeen (value_of x) gs l.1.time value log) (sym l.4) (subst (λ (x : ℕ). IsSeen (value_of variable) gs x value log) (sym l.3) seen) in
    let v = r.all value log there in
    record {
      place = l.0;
      race = l.1;
      at = l.2;
      time_is = l.3;
      variable_is = l.4;
      value_place = v.0;
      witness = v.1;
      value_at = v.2;
      value_is = v.3;
    }

-- where the slot ends of a time are listed, so are its races
pub races_at : (setting : Setting) (depart : ℕ) (marks : List (MachineState × List (ℕ × ℕ))) (gs : List SlotState) (races : List Race) → Alike setting → AllStand setting → HasVariables setting → (time : ℕ) →
    AreEndsListed setting depart marks time → AreSlotStates setting marks gs → AreAllRaces gs races → (variable : ℕ) (value : Vector) →
    TwoRunsDiffer setting depart time variable → SomeRunShows setting depart time variable value → ListsValue races time variable value
races_at setting depart marks gs races alike all wide time ends are book variable value differ shows =
    let see = shown_seen setting depart marks gs alike all wide time ends are variable in
    let one = see differ.one differ.shows_one.log differ.shows_one.steps differ.shows_one.short differ.shows_one.shown in
    let other = see differ.other differ.shows_other.log differ.shows_other.steps differ.shows_other.short differ.shows_other.shown in
    let third = see value shows.log shows.steps shows.short shows.shown in
    let two = disagreement (value_of variable) gs time differ.one differ.other (length differ.shows_one.log) (length differ.shows_other.log) one other differ.differ in
    listed gs races book time variable value third.log two third.seen

-- and each value has the fewest departures
pub races_fewest : (setting : Setting) (limits : Limits) (marks : List (MachineState × List (ℕ × ℕ))) (gs : List SlotState) (races : List Race) → Alike setting → AllStand setting → RunThere setting → HasVariables setting →
    AreFound (machine_rules setting) limits marks → AreSlotStates setting marks gs → AreAllRaces gs races →
    ((i : ℕ) (race : Race) → slice_get races i ≡ Some race → AreEndsListed setting limits.depart marks race.time) → EachRace (HasFewest setting) races
races_fewest setting limits marks gs races alike all there wide found are book ends = λ i race at j s log steps at' shown.
    let r = book.each i race at in
    let witness = seen_witness setting limits marks gs alike all there found are race.time race.variable s.0 s.1 (r.seen j s at') in
    fewest_by (value_of race.variable) gs race.time limits.depart race.values j s log r at' witness.short
    (λ short. shown_seen setting limits.depart marks gs alike all wide race.time (ends i race at) are race.variable s.0 log steps short shown)

pub races_order : (gs : List SlotState) (races : List Race) → AreAllRaces gs races → EachRace (λ race. AreInTextOrder race.values) races
races_order gs races book = λ i race at. (book.each i race at).order

-- ---- the races of lines

pub lines_found : (setting : Setting) (limits : Limits) (marks : List (MachineState × List (ℕ × ℕ))) (gs : List SlotState) (races : List LineRace) → Alike setting → AllStand setting → RunThere setting →
    AreFound (machine_rules setting) limits marks → AreSlotStates setting marks gs → AreAllLineRaces gs races → EachLineRace (IsLineRace setting limits) races
lines_found setting limits marks gs races alike all there found are book = λ i race at.
    let r = book.each i race at in
    record {
      two = r.two;
      order = r.order;
      seen = λ i s here. lines_witness setting limits marks gs alike all there found are race.time s.0 s.1 (r.seen i s here);
    }

-- where slot states disagree, the race lists all lines that are seen
pub lines_listed : (gs : List SlotState) (races : List LineRace) → AreAllLineRaces gs races → (time : ℕ) (lines : Texts) (log : List (ℕ × ℕ)) →
    Disagree printed_of gs time → IsSeen printed_of gs time lines log → ListsLines races time lines
lines_listed gs races book time lines log two seen =
    let l = book.all time 0 (two, refl) in
    let r = book.each l.0 l.1 l.2 in
    let v = r.all lines log (subst (λ (x : ℕ). IsSeen printed_of gs x lines log) (sym l.3) seen) in
    record {
      place = l.0;
      race = l.1;
      at = l.2;
      time_is = l.3;
      side_place = v.0;
      side = v.1;
      side_at = v.2;
      lines_are = v.3;
    }

pub lines_at : (setting : Setting) (depart : ℕ) (marks : List (MachineState × List (ℕ × ℕ))) (gs : List SlotState) (races : List LineRace) → Alike setting → AllStand setting → HasVariables setting → (time : ℕ) →
    AreEndsListed setting depart marks time → AreSlotStates setting marks gs → AreAllLineRaces gs races → (lines : Texts) →
    TwoRunsPrint setting depart time → SomeRunPrints setting depart time lines → ListsLines races time lines
lines_at setting depart marks gs races alike all wide time ends are book lines differ prints =
    let see = lines_seen setting depart marks gs alike all wide time ends are in
    let one = see differ.one differ.prints_one.log differ.prints_one.steps differ.prints_one.short differ.prints_one.shown in
    let other = see differ.other differ.prints_other.log differ.prints_other.steps differ.prints_other.short differ.prints_other.shown in
    let third = see lines prints.log prints.steps prints.short prints.shown in
    let two = disagreement printed_of gs time differ.one differ.other (length differ.prints_one.log) (length differ.prints_other.log) one other differ.differ in
    lines_listed gs races book time lines third.log two third.seen

pub lines_fewest : (setting : Setting) (limits : Limits) (marks : List (MachineState × List (ℕ × ℕ))) (gs : List SlotState) (races : List LineRace) → Alike setting → AllStand setting → RunThere setting → HasVariables setting →
    AreFound (machine_rules setting) limits marks → AreSlotStates setting marks gs → AreAllLineRaces gs races →
    ((i : ℕ) (race : LineRace) → slice_get races i ≡ Some race → AreEndsListed setting limits.depart marks race.time) → EachLineRace (HasFewestOfLines setting) races
lines_fewest setting limits marks gs races alike all there wide found are book ends = λ i race at j s log steps at' shown.
    let r = book.each i race at in
    let witness = lines_witness setting limits marks gs alike all there found are race.time s.0 s.1 (r.seen j s at') in
    fewest_by printed_of gs race.time limits.depart race.sides j s log r at' witness.short
    (λ short. lines_seen setting limits.depart marks gs alike all wide race.time (ends i race at) are s.0 log steps short shown)

-- by time alone
later_time : (t u : ℕ) → IsEarlier t 0 u 0 → t < u
later_time t u (inl lt) = lt
later_time t u (inr same) = absurd (let h = same.1 in omega arith)

pub lines_order : (gs : List SlotState) (races : List LineRace) → AreAllLineRaces gs races → AreLineRacesInOrder races
lines_order gs races book = λ i j a b lt at at'. later_time a.time b.time (book.order i j a b lt at at')

pub sides_order : (gs : List SlotState) (races : List LineRace) → AreAllLineRaces gs races → AreAllSidesInOrder races
sides_order gs races book = λ i race at. (book.each i race at).order
