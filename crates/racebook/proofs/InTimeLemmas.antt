-- What a search that goes by time tells, by what it was handed on.
use Rattle.std.proofs.Common.{◌≡◌, ℕ, ◌≤◌, ◌==◌, Bool, true, false, cond, List, [], length, Option, Some, None, IfSome, refl, sym, ap, ◌∙◌, subst, inl, inr, arith}
use Rattle.std.specs.List.{Contains}
use Rattle.std.specs.Option.{IsSome}
use Rattle.std.proofs.lemmas.Bool.Decides.{nat_tests}
use Rattle.basis.proofs.Lists.{at_contains, listed_place}
use Rattle.sched_core.specs.Replay.{EndsAfter}
use Rattle.sched_core.specs.Rules.{stands}
use Rattle.sched_core.specs.declared.end.End.{End}
use Rattle.statebook.specs.declared.limits.Limits.{Limits}
use Rattle.explore.specs.Found.{AreFound, IsListedMark}
use Rattle.explore.specs.Ranked.{HandsOn, HandsOnAllTo, WasHandedOn, pairs_of}
use Rattle.explore.specs.declared.ranked_findings.RankedFindings.{RankedFindings}
use Rattle.explore.specs.declared.ranked_findings.RankedStatus.TheVariants.{Exhausted}
use Rattle.vmodel.specs.State.{State}
use Rattle.vmodel.specs.Choices.{choices}
use Rattle.vmodel.specs.Run.{Setting, rules_of, state_after, end_of}
use Rattle.vmodel.specs.RulesLaws.{lawful}
use Rattle.vmodel.specs.RunProgress.{width_is}
use Rattle.vmachine.specs.declared.machine_state.MachineState.{MachineState}
use Rattle.vmachine.specs.Machines.{Stands, machine_rules, rank_of}
use Rattle.vmachine.specs.Reads.{end_in}
use Rattle.racebook.specs.declared.slot_state.SlotState.{SlotState}
use Rattle.racebook.specs.declared.slots.ClosedSlots.{ClosedSlots}
use Rattle.racebook.specs.Races.{EachRace, AreRacesInOrder, AreValuesInOrder, HasFewest, IsRace, ListsEveryValue, Race}
use Rattle.racebook.specs.LineRaces.{AreAllSidesInOrder, AreLineRacesInOrder, EachLineRace, HasFewestOfLines, IsLineRace, LineRace, ListsAllLines}
use Rattle.racebook.specs.InTime.{EachEnd, HasFewestToEnd, IsClosed, IsEndOfRun, KeepsEnd, KeepsEveryEnd, KeepsEveryEndTo, ListsAllLinesTo, ListsEveryValueTo}
use Rattle.racebook.specs.Inner.{AreInTurn, AreKept, AreLineRacesOf, AreRacesOf, AreSlotStates, CollectsSlots, KeepsSlots, marks_of}
use Rattle.racebook.proofs.ClosedLemmas.{closing_of, mark_of_closing, slot_time}
use Rattle.racebook.proofs.FoundLemmas.{Alike, AllStand, AreEndsListed, HasVariables, MarkAlike, RunHere, RunThere, end_marked, ends_listed, lines_at, lines_fewest, lines_found, lines_order, races_at, races_fewest, races_found, races_order, sides_order}
use Rattle.racebook.proofs.ListLemmas.{contains_at}

-- what holds of a number that there is
if_some : {X : Type 0} (o : Option X) (P Q : X → Type 0) → ((x : X) → P x → Q x) → IfSome o P → IfSome o Q
if_some None P Q from p = tt
if_some (Some x) P Q from p = from x p

-- no choice is left where a run has ended
no_choice : (n : ℕ) (b : Bool) (end : End) → (n == 0) ≡ b → IsSome (cond b (Some end) None) → n ≡ 0
no_choice n true end e is = grind (arith, nat_tests)
no_choice n false end e is = absurd (cc)

pub ended_here : (t : State) → IsSome (end_in t) → length (choices t) ≡ 0
ended_here t is = no_choice (length (choices t)) (length (choices t) == 0) (end_of t) refl is

pub told_where_ended : (t : State) → length (choices t) ≡ 0 → end_in t ≡ Some (end_of t)
told_where_ended t none = ap (λ (n : ℕ). cond (n == 0) (Some (end_of t)) None) none

-- a state's rank is its time
abbrev pub RankIsTime : Setting → Type 0
RankIsTime setting = (s : MachineState) (t : State) → Stands setting s t → rank_of setting s ≡ t.queue.time

abbrev pub SameForOne : Setting → Type 0
SameForOne setting = (s r : MachineState) (t : State) → Stands setting s t → Stands setting r t → (machine_rules setting).same s r ≡ true

-- all that is told
pub record IsTold (setting : Setting) (limits : Limits) (races : List Race) (line_races : List LineRace) (ends : List (MachineState × List (ℕ × ℕ))) (findings : RankedFindings) : Type 0 where
  pub found : EachRace (IsRace setting limits) races
  pub closed : IfSome findings.closed (ListsEveryValueTo setting limits.depart races)
  pub exhausted : findings.status ≡ Exhausted → ListsEveryValue setting limits.depart races
  pub fewest : EachRace (HasFewest setting) races
  pub order : AreRacesInOrder races
  pub values : AreValuesInOrder races
  pub lines_found : EachLineRace (IsLineRace setting limits) line_races
  pub lines_closed : IfSome findings.closed (ListsAllLinesTo setting limits.depart line_races)
  pub lines_exhausted : findings.status ≡ Exhausted → ListsAllLines setting limits.depart line_races
  pub lines_fewest : EachLineRace (HasFewestOfLines setting) line_races
  pub lines_order : AreLineRacesInOrder line_races
  pub lines_sides : AreAllSidesInOrder line_races
  pub ends_found : EachEnd (IsEndOfRun setting limits) ends
  pub ends_closed : IfSome findings.closed (KeepsEveryEndTo setting limits.depart ends)
  pub ends_exhausted : findings.status ≡ Exhausted → KeepsEveryEnd setting limits.depart ends
  pub ends_fewest : EachEnd (HasFewestToEnd setting) ends
  pub races_of_closed : EachRace (λ race. IsClosed findings.closed race.time) races
  pub lines_of_closed : EachLineRace (λ race. IsClosed findings.closed race.time) line_races
  pub ends_of_closed : EachEnd (λ end. (t : State) → Stands setting end.0 t → IsClosed findings.closed t.queue.time) ends

module _ (setting : Setting) (alike : Alike setting) (all : AllStand setting) (there : RunThere setting) (here : RunHere setting) (mark_alike : MarkAlike setting) (wide : HasVariables setting) (ranked : RankIsTime setting) (one : SameForOne setting)
    (limits : Limits) (races : List Race) (line_races : List LineRace) (ends : List (MachineState × List (ℕ × ℕ))) (findings : RankedFindings)
    (hands : HandsOn (machine_rules setting) limits (rank_of setting) (AreKept setting races line_races ends) findings) where
  abbrev marks : List (MachineState × List (ℕ × ℕ))
  marks = marks_of hands.closings

  marks_found : AreFound (machine_rules setting) limits marks
  marks_found i found at =
      let o = closing_of hands.closings i found at in
      hands.found o.place o.closing o.at o.mark_place found o.mark_at

  in_turn : AreInTurn setting hands.closings
  in_turn = record {
    rise = hands.rise;
    times = λ i c at j found mark.
        (let f = hands.found i c at j found mark in
        let t = state_after setting found.1 f.steps in
        let st : Stands setting found.0 t = alike (stands (machine_rules setting) found.1 f.steps) found.0 t (all found.1 f.steps) f.at in
        (t, st, sym (ranked found.0 t st) ∙ hands.ranks i c at j found mark));
  }

  -- ---- which marks are listed

  listed_of : (s : MachineState) (d : ℕ) → WasHandedOn (machine_rules setting) hands.closings s d → IsListedMark (machine_rules setting) marks s d
  listed_of s d (i, c, at, l) =
      let m = mark_of_closing hands.closings i c l.place l.found at l.at in
      record { place = m.0; found = l.found; at = m.1; same = l.same; departures = l.departures }

  abbrev AllTo : ℕ → Type 0
  AllTo top = HandsOnAllTo (machine_rules setting) limits (rank_of setting) hands.closings top

  listed_to : (top : ℕ) → AllTo top → (time : ℕ) → time ≤ top → AreEndsListed setting limits.depart marks time
  listed_to top covered time le = λ values log steps short run is.
      let s = stands (machine_rules setting) log steps in
      let at = ranked s (state_after setting log steps) (all log steps) in
      let same = is.time_is in
      listed_of s (length log) (covered log steps short (here log steps run) (end_marked setting all mark_alike time values log steps is) (omega arith))

  listed_all : findings.status ≡ Exhausted → (time : ℕ) → AreEndsListed setting limits.depart marks time
  listed_all e time = ends_listed setting limits.depart marks all here mark_alike
      (λ log n short run mark. listed_of (stands (machine_rules setting) log n) (length log) (hands.exhausted e log n short run mark)) time

  -- of a time that a slot state has
  listed_here : (gs : List SlotState) → AreSlotStates setting marks gs → (g : SlotState) → Contains gs g → AreEndsListed setting limits.depart marks g.time
  listed_here gs are g has =
      let o = are.each g has in
      let c = closing_of hands.closings o.place o.found o.at in
      let is = slot_time setting o.found g c.closing.rank o.of (in_turn.times c.place c.closing c.at c.mark_place o.found c.mark_at) in
      let l = hands.last c.place c.closing c.at in
      let le = l.2 in
      listed_to l.0 (subst (λ (closed : Option ℕ). IfSome closed AllTo) l.1 hands.covered) g.time (omega arith)

  -- the time of a slot state was closed
  closed_here : (gs : List SlotState) → AreSlotStates setting marks gs → (g : SlotState) → Contains gs g → IsClosed findings.closed g.time
  closed_here gs are g has =
      let o = are.each g has in
      let c = closing_of hands.closings o.place o.found o.at in
      let is = slot_time setting o.found g c.closing.rank o.of (in_turn.times c.place c.closing c.at c.mark_place o.found c.mark_at) in
      let l = hands.last c.place c.closing c.at in
      let le = l.2 in
      (l.0, l.1, omega (arith, is, le))

  -- ---- races

  kept_races : AreRacesOf setting marks races
  kept_races = hands.collected.of_values in_turn

  timed_found : EachRace (IsRace setting limits) races
  timed_found = races_found setting limits marks kept_races.slot_states races alike all there marks_found kept_races.are kept_races.all

  timed_closed : IfSome findings.closed (ListsEveryValueTo setting limits.depart races)
  timed_closed = if_some findings.closed AllTo (ListsEveryValueTo setting limits.depart races)
      (λ top covered. λ time variable value le differ shows.
      races_at setting limits.depart marks kept_races.slot_states races alike all wide time (listed_to top covered time le) kept_races.are kept_races.all variable value differ shows) hands.covered

  timed_exhausted : findings.status ≡ Exhausted → ListsEveryValue setting limits.depart races
  timed_exhausted e = λ time variable value differ shows.
      races_at setting limits.depart marks kept_races.slot_states races alike all wide time (listed_all e time) kept_races.are kept_races.all variable value differ shows

  timed_fewest : EachRace (HasFewest setting) races
  timed_fewest = races_fewest setting limits marks kept_races.slot_states races alike all there wide marks_found kept_races.are kept_races.all
      (λ i race at. (let r = kept_races.all.each i race at in
      let two = r.two in
      let s = listed_place race.values 0 (omega arith) in
      let seen = r.seen 0 s.0 s.1 in
      subst (AreEndsListed setting limits.depart marks) seen.time_is (listed_here kept_races.slot_states kept_races.are seen.slot_state seen.among)))

  timed_of_closed : EachRace (λ race. IsClosed findings.closed race.time) races
  timed_of_closed = λ i race at.
      (let r = kept_races.all.each i race at in
      let two = r.two in
      let s = listed_place race.values 0 (omega arith) in
      let seen = r.seen 0 s.0 s.1 in
      subst (IsClosed findings.closed) seen.time_is (closed_here kept_races.slot_states kept_races.are seen.slot_state seen.among))

  timed_order : AreRacesInOrder races
  timed_order = kept_races.all.order

  timed_values : AreValuesInOrder races
  timed_values = races_order kept_races.slot_states races kept_races.all

  -- ---- races of lines

  kept_lines : AreLineRacesOf setting marks line_races
  kept_lines = hands.collected.of_lines in_turn

  timed_lines_found : EachLineRace (IsLineRace setting limits) line_races
  timed_lines_found = lines_found setting limits marks kept_lines.slot_states line_races alike all there marks_found kept_lines.are kept_lines.all

  timed_lines_closed : IfSome findings.closed (ListsAllLinesTo setting limits.depart line_races)
  timed_lines_closed = if_some findings.closed AllTo (ListsAllLinesTo setting limits.depart line_races)
      (λ top covered. λ time lines le differ prints.
      lines_at setting limits.depart marks kept_lines.slot_states line_races alike all wide time (listed_to top covered time le) kept_lines.are kept_lines.all lines differ prints) hands.covered

  timed_lines_exhausted : findings.status ≡ Exhausted → ListsAllLines setting limits.depart line_races
  timed_lines_exhausted e = λ time lines differ prints.
      lines_at setting limits.depart marks kept_lines.slot_states line_races alike all wide time (listed_all e time) kept_lines.are kept_lines.all lines differ prints

  timed_lines_fewest : EachLineRace (HasFewestOfLines setting) line_races
  timed_lines_fewest = lines_fewest setting limits marks kept_lines.slot_states line_races alike all there wide marks_found kept_lines.are kept_lines.all
      (λ i race at. (let r = kept_lines.all.each i race at in
      let two = r.two in
      let s = listed_place race.sides 0 (omega arith) in
      let seen = r.seen 0 s.0 s.1 in
      subst (AreEndsListed setting limits.depart marks) seen.time_is (listed_here kept_lines.slot_states kept_lines.are seen.slot_state seen.among)))

  timed_lines_of_closed : EachLineRace (λ race. IsClosed findings.closed race.time) line_races
  timed_lines_of_closed = λ i race at.
      (let r = kept_lines.all.each i race at in
      let two = r.two in
      let s = listed_place race.sides 0 (omega arith) in
      let seen = r.seen 0 s.0 s.1 in
      subst (IsClosed findings.closed) seen.time_is (closed_here kept_lines.slot_states kept_lines.are seen.slot_state seen.among))

  timed_lines_order : AreLineRacesInOrder line_races
  timed_lines_order = lines_order kept_lines.slot_states line_races kept_lines.all

  timed_lines_sides : AreAllSidesInOrder line_races
  timed_lines_sides = sides_order kept_lines.slot_states line_races kept_lines.all

  -- ---- ends

  timed_ends_found : EachEnd (IsEndOfRun setting limits) ends
  timed_ends_found = λ i end at.
      (let e = hands.collected.of_ends.each end (contains_at ends i end at) in
      let m = at_contains marks end e.0 in
      let f = marks_found m.0 end m.1 in
      let t = state_after setting end.1 f.steps in
      let st : Stands setting end.0 t = alike (stands (machine_rules setting) end.1 f.steps) end.0 t (all end.1 f.steps) f.at in
      record {
        steps = f.steps;
        ends = record { run = there end.1 f.steps f.run; end = width_is setting t ∙ ended_here t (e.1 t st); names = f.names };
        stands = st;
        within = f.within;
        short = f.short;
      })

  -- the mark where the run ends is kept
  kept_end : (log : List (ℕ × ℕ)) (steps : ℕ) → EndsAfter (rules_of setting) log steps → IsListedMark (machine_rules setting) marks (stands (machine_rules setting) log steps) (length log) →
      KeepsEnd setting ends (state_after setting log steps) (length log)
  kept_end log steps after l =
      let t = state_after setting log steps in
      let st : Stands setting l.found.0 t = alike (stands (machine_rules setting) log steps) l.found.0 t (all log steps) l.same in
      elim (hands.collected.of_ends.whole l.found (contains_at marks l.place l.found l.at)) [
        | inl kept ↦ (let p = at_contains ends l.found kept in record { place = p.0; end = l.found; at = p.1; stands = st; fewest = l.departures })
        | inr on ↦ absurd (let none = on t st in let told = told_where_ended t (sym (width_is setting t) ∙ after.end) in cc)
      ]

  end_marks : (log : List (ℕ × ℕ)) (steps : ℕ) → EndsAfter (rules_of setting) log steps → (machine_rules setting).mark (stands (machine_rules setting) log steps) ≡ true
  end_marks log steps after =
      mark_alike (stands (machine_rules setting) log steps) (state_after setting log steps) (all log steps) ∙ (lawful setting).end_is_mark (state_after setting log steps) after.end

  timed_ends_closed : IfSome findings.closed (KeepsEveryEndTo setting limits.depart ends)
  timed_ends_closed = if_some findings.closed AllTo (KeepsEveryEndTo setting limits.depart ends)
      (λ top covered. λ log steps short after le.
      (let at = ranked (stands (machine_rules setting) log steps) (state_after setting log steps) (all log steps) in
      kept_end log steps after (listed_of (stands (machine_rules setting) log steps) (length log) (covered log steps short (here log steps after.run) (end_marks log steps after) (omega arith))))) hands.covered

  timed_ends_exhausted : findings.status ≡ Exhausted → KeepsEveryEnd setting limits.depart ends
  timed_ends_exhausted e = λ log steps short after.
      kept_end log steps after (listed_of (stands (machine_rules setting) log steps) (length log) (hands.exhausted e log steps short (here log steps after.run) (end_marks log steps after)))

  timed_ends_fewest : EachEnd (HasFewestToEnd setting) ends
  timed_ends_fewest = λ i end at log steps run st.
      (let e = hands.collected.of_ends.each end (contains_at ends i end at) in
      let m = at_contains marks end e.0 in
      let o = closing_of hands.closings m.0 end m.1 in
      hands.fewest o.place o.closing o.at o.mark_place end o.mark_at log steps (here log steps run) (one end.0 (stands (machine_rules setting) log steps) (state_after setting log steps) st (all log steps)))

  timed_ends_of_closed : EachEnd (λ end. (t : State) → Stands setting end.0 t → IsClosed findings.closed t.queue.time) ends
  timed_ends_of_closed = λ i end at t st.
      (let e = hands.collected.of_ends.each end (contains_at ends i end at) in
      let m = at_contains marks end e.0 in
      let c = closing_of hands.closings m.0 end m.1 in
      let l = hands.last c.place c.closing c.at in
      let le = l.2 in
      let rank_is = hands.ranks c.place c.closing c.at c.mark_place end c.mark_at in
      let time_is = ranked end.0 t st in
      (l.0, l.1, omega (arith, le, rank_is, time_is)))

  pub told : IsTold setting limits races line_races ends findings
  told = record {
    found = timed_found;
    closed = timed_closed;
    exhausted = timed_exhausted;
    fewest = timed_fewest;
    order = timed_order;
    values = timed_values;
    lines_found = timed_lines_found;
    lines_closed = timed_lines_closed;
    lines_exhausted = timed_lines_exhausted;
    lines_fewest = timed_lines_fewest;
    lines_order = timed_lines_order;
    lines_sides = timed_lines_sides;
    ends_found = timed_ends_found;
    ends_closed = timed_ends_closed;
    ends_exhausted = timed_ends_exhausted;
    ends_fewest = timed_ends_fewest;
    races_of_closed = timed_of_closed;
    lines_of_closed = timed_lines_of_closed;
    ends_of_closed = timed_ends_of_closed;
  }

-- what was handed on has made this of what is kept
pub handed_so : (setting : Setting) (limits : Limits) (first now : ClosedSlots) (findings : RankedFindings) → first.machine.now ≡ setting → KeepsSlots setting first [] →
    HandsOn (machine_rules setting) limits (rank_of setting) (λ closings. CollectsSlots first closings now) findings →
    HandsOn (machine_rules setting) limits (rank_of setting) (AreKept setting now.races.items now.line_races.items (pairs_of now.ends.items)) findings
handed_so setting limits first now findings is none hands = record {
  closings = hands.closings;
  collected = subst (λ (s : Setting). KeepsSlots s now hands.closings) is (hands.collected.kept [] (subst (λ (s : Setting). KeepsSlots s first []) (sym is) none));
  found = hands.found;
  ranks = hands.ranks;
  rise = hands.rise;
  last = hands.last;
  fewest = hands.fewest;
  covered = hands.covered;
  exhausted = hands.exhausted;
}
