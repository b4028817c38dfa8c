-- What a run gives: a step at most a dump command and a slot end, no time past the limit, and values as long as their variables.
use Rattle.std.proofs.Common.{◌≡◌, ◌≤◌, ◌<◌, ℕ, zero, suc, ◌+◌, ◌*◌, ◌^◌, Bool, true, false, if◌then◌else◌, List, [], ◌∷◌, ◌++◌, Option, Some, None, All, length, refl, sym, ap, subst, arith}
use Rattle.std.specs.Prelude.{nat_lt, slice_get}
use Rattle.std.specs.List.{Contains, slice_index_or}
use Rattle.std.proofs.lemmas.List.Elements.{All-nil, All-cons, All-head, All-tail, All-contains_itself}
use Rattle.sched_core.specs.Rules.{choice_at}
use Rattle.sched_core.specs.declared.end.Cause.{Cause}
use Rattle.vbits.specs.Vectors.{Vector}
use Rattle.vdesign.specs.Design.{Variable, Design}
use Rattle.vdesign.specs.declared.action.Action.{Action}
use Rattle.vmodel.specs.declared.history.Item.{Item}
use Rattle.vmodel.specs.declared.history.Item.TheVariants.{SlotEnd, Dump, Line, Monitor}
use Rattle.vmodel.specs.declared.effect.Shown.{Shown}
use Rattle.vmodel.specs.declared.effect.Shown.TheVariants.{Commands, Prints, Watches}
use Rattle.vmodel.specs.declared.effect.Post.{Post}
use Rattle.vmodel.specs.declared.effect.Disposition.{Disposition}
use Rattle.vmodel.specs.declared.effect.Disposition.TheVariants.{Runnable, Delayed, Waiting}
use Rattle.vmodel.specs.declared.part.Part.{Part}
use Rattle.vmodel.specs.declared.frame.Frame.{Frame}
use Rattle.vmodel.specs.declared.choice.Choice.{Choice}
use Rattle.vmodel.specs.declared.choice.Choice.TheVariants.{Run, Update, Advance}
use Rattle.vmodel.specs.Queue.{Later, Queue, slot_with_sleeper, slot_with_update, later_at, later}
use Rattle.vmodel.specs.State.{State}
use Rattle.vmodel.specs.Choices.{choices}
use Rattle.vmodel.specs.Step.{Transition, StepResult, environment_of, execute_at, place_of, with_next_step, becomes_inactive, with_delay, reschedule, posts_after, posts, process_to_continue, with_strobe, activate_next_region, with_moves_by, with_woken, with_step, transition_with, action_transition, continuation_transition, continuation_of, held_of, without_update, with_update, with_advance, transition_of, transition_by, next, shown_items, idle_items, slot_end_by, slot_end_of, strobe_items, before_end, end_items, items_of}
use Rattle.vmodel.specs.Run.{Setting, opening_of, state_after, items_after, history_after}
use Rattle.vmodel.specs.RunProgress.{opening_is, after_is}
use Rattle.plain_steps.specs.RunLaws.{IsAlwaysKept, IsAlwaysFull, IsAlwaysShaped, ShowsOnlySlotEnds}
use Rattle.vmodel.specs.Kept.{FutureFrom, AreShaped}
use Rattle.vcd_text.specs.DumpText.{vcd}
use Rattle.dump_law.specs.Small.{IsSmallVariable, IsSmall}
use Rattle.dump_law.specs.Short.{IsNarrow, IsShort, told_in}
use Rattle.dump_law.proofs.DumpLemmas.{dump_long}

-- ---- how much a step gives

told_joined : (xs ys : List Item) → told_in (xs ++ ys) ≡ told_in xs + told_in ys
told_joined [] ys = omega arith
told_joined (SlotEnd time values ∷ xs) ys = let rest = told_joined xs ys in omega (arith, rest)
told_joined (Dump command ∷ xs) ys = let rest = told_joined xs ys in omega (arith, rest)
told_joined (Line text ∷ xs) ys = told_joined xs ys
told_joined (Monitor place ∷ xs) ys = told_joined xs ys

module _ (design : Design) (s : State) where
  shown_told : (shown : Option Shown) → told_in (shown_items design s shown) ≤ 1
  shown_told None = omega arith
  shown_told (Some (Commands command)) = omega arith
  shown_told (Some (Prints place)) = omega arith
  shown_told (Some (Watches place)) = omega arith

  strobes_told : (places : List ℕ) → told_in (strobe_items design s places) ≡ 0
  strobes_told [] = refl
  strobes_told (place ∷ places) = strobes_told places

  idle_told : (active : List ℕ) (activated : List (List Part)) → told_in (idle_items active activated s.queue.time s.values) ≤ 1
  idle_told [] [] = omega arith
  idle_told [] (u ∷ us) = omega arith
  idle_told (p ∷ ps) us = omega arith

  end_told : (cause : Option Cause) → told_in (slot_end_by cause s) ≤ 1
  end_told (Some cause) = omega arith
  end_told None = idle_told s.queue.active s.queue.activated

before_told : (strobes ends : List Item) → told_in strobes ≡ 0 → told_in ends ≤ 1 → told_in (before_end strobes ends) ≤ 1
before_told strobes [] none one = omega arith
before_told strobes (end ∷ ends) none one = let both = told_joined strobes (end ∷ ends) in omega (arith, both, none, one)

items_told : (design : Design) (transition : Transition) → told_in (items_of design transition) ≤ 2
items_told design transition =
    let s = transition.state in
    let both = told_joined (shown_items design s transition.effect.shown) (end_items design s transition.monitors) in
    let shown = shown_told design s transition.effect.shown in
    let ended = before_told (strobe_items design s transition.monitors) (slot_end_of s) (strobes_told design s transition.monitors) (end_told design s s.cause) in
    omega (arith, both, shown, ended)

run_told : (setting : Setting) (log : List (ℕ × ℕ)) (n : ℕ) → told_in (items_after setting log n) ≤ 1 + 2 * n
run_told setting log zero = let one = end_told setting.design (opening_of setting) (opening_of setting).cause in omega (arith, one)
run_told setting log (suc n) =
    let transition = next setting.design (state_after setting log n) (choice_at log n) in
    let both = told_joined (items_after setting log n) (items_of setting.design transition) in
    let here = items_told setting.design transition in
    let rest = run_told setting log n in
    omega (arith, both, here, rest)

-- ---- no time is past the limit

module _ (until : ℕ) where
  abbrev IsWithin : Queue → Type 0
  IsWithin q = (q.until ≡ until) × (q.time ≤ until)

  regions_within : (active : List ℕ) (activated : List (List Part)) (inactive : List ℕ) (posted : List (List Part)) (q : Queue) → IsWithin q → IsWithin (activate_next_region active activated inactive posted q)
  regions_within (p ∷ ps) us is posted q h = h
  regions_within [] (u ∷ us) is posted q h = h
  regions_within [] [] (i ∷ is) posted q h = h
  regions_within [] [] [] (u ∷ us) q h = h
  regions_within [] [] [] [] q h = h

  moves_within : (cause : Option Cause) (s : State) → IsWithin s.queue → IsWithin (with_moves_by cause s).queue
  moves_within (Some cause) s h = h
  moves_within None s h = regions_within s.queue.active s.queue.activated s.queue.inactive s.queue.posted s.queue h

  later_within : (d : ℕ) (put : Later → Later) (q : Queue) → IsWithin q → IsWithin (later d put q)
  later_within d put q h = by (nat_lt q.until (q.time + d))
    where
      by : (b : Bool) → IsWithin (if b then record q { beyond = true } else record q { future = later_at (q.time + d) put q.future })
      by true = h
      by false = h

  goes_within : (p : ℕ) (goes : Option ℕ) (q : Queue) → IsWithin q → IsWithin (with_next_step p goes q)
  goes_within p None q h = h
  goes_within p (Some same) q h = h

  inactive_within : (sleeper : Option ℕ) (q : Queue) → IsWithin q → IsWithin (becomes_inactive sleeper q)
  inactive_within None q h = h
  inactive_within (Some p) q h = h

  sleeps_within : (d : ℕ) (sleeper : Option ℕ) (q : Queue) → IsWithin q → IsWithin (with_delay d sleeper q)
  sleeps_within zero sleeper q h = inactive_within sleeper q h
  sleeps_within (suc d) sleeper q h = later_within (suc d) (slot_with_sleeper sleeper) q h

  reschedule_within : (p : ℕ) (disposition : Disposition) (goes : Option ℕ) (q : Queue) → IsWithin q → IsWithin (reschedule p disposition goes q)
  reschedule_within p Runnable goes q h = goes_within p goes q h
  reschedule_within p (Delayed d) goes q h = sleeps_within d goes q h
  reschedule_within p (Waiting place) goes q h = h

  posts_after_within : (d : ℕ) (parts : List Part) (q : Queue) → IsWithin q → IsWithin (posts_after d parts q)
  posts_after_within zero parts q h = h
  posts_after_within (suc d) parts q h = later_within (suc d) (slot_with_update parts) q h

  posts_within : (posted : Option Post) (q : Queue) → IsWithin q → IsWithin (posts posted q)
  posts_within None q h = h
  posts_within (Some post) q h = posts_after_within post.after post.parts q h

  step_within : (design : Design) (p : ℕ) (step : StepResult) (s : State) → IsWithin s.queue → IsWithin (transition_with design p step s).state.queue
  step_within design p step s h =
      let placed : IsWithin (with_step p step s).queue =
      reschedule_within p step.effect.disposition (process_to_continue p step.continuation) (posts step.effect.posted (with_strobe step.effect.strobed s.queue))
      (posts_within step.effect.posted (with_strobe step.effect.strobed s.queue) h) in
      moves_within step.effect.cause (with_woken design s.values step.effect.triggered (with_step p step s)) placed

  action_within : (design : Design) (p : ℕ) (frame : Frame) (action : Option Action) (after : List Frame) (s : State) → IsWithin s.queue → IsWithin (action_transition design p frame action after s).state.queue
  action_within design p frame None after s h = h
  action_within design p frame (Some action) after s h = step_within design p (execute_at frame action after (held_of (slice_get s.processes p)) (environment_of design s)) s h

  process_within : (design : Design) (p : ℕ) (continuation : List Frame) (s : State) → IsWithin s.queue → IsWithin (continuation_transition design p continuation s).state.queue
  process_within design p [] s h = h
  process_within design p (frame ∷ after) s h = action_within design p frame (slice_get design.actions (place_of frame)) after s h

  update_within : (us : List (List Part)) (q : Queue) → IsWithin q → IsWithin (without_update us q)
  update_within [] q h = h
  update_within (u ∷ us) q h = h

  -- 11.3: a future time is no later than the limit
  advance_within : (future : List (ℕ × Later)) (q : Queue) → FutureFrom (suc q.time) q.until future → IsWithin q → IsWithin (with_advance future q)
  advance_within [] q rises h = h
  advance_within (e ∷ es) q rises h = (h.0, omega (arith, rises.1, h.0))

  transition_within : (design : Design) (c : Choice) (s : State) → FutureFrom (suc s.queue.time) s.queue.until s.queue.future → IsWithin s.queue → IsWithin (transition_of design c s).state.queue
  transition_within design (Run p) s rises h = process_within design p (continuation_of (slice_get s.processes p)) s h
  transition_within design Update s rises h = moves_within s.cause (with_woken design s.values None (with_update s)) (update_within s.queue.activated s.queue h)
  transition_within design Advance s rises h = moves_within s.cause (record s { queue = with_advance s.queue.future s.queue }) (advance_within s.queue.future s.queue rises h)

  by_within : (design : Design) (s : State) (i : ℕ) (c : Option Choice) → FutureFrom (suc s.queue.time) s.queue.until s.queue.future → IsWithin s.queue → IsWithin (transition_by design s i c).state.queue
  by_within design s i None rises h = h
  by_within design s i (Some c) rises h = transition_within design c s rises h

run_within : IsAlwaysKept → (setting : Setting) (log : List (ℕ × ℕ)) (n : ℕ) → IsWithin setting.until (state_after setting log n).queue
run_within kept setting log zero = subst (λ (s : State). IsWithin setting.until s.queue) (sym (opening_is setting)) (refl, omega arith)
run_within kept setting log (suc n) =
    let s = state_after setting log n in
    let i = choice_at log n in
    subst (λ (t : State). IsWithin setting.until t.queue) (sym (after_is setting s i))
    (by_within setting.until setting.design s i (slice_get (choices s) i) (kept setting log n).order.future (run_within kept setting log n))

-- ---- what a slot end shows

shaped_narrow : (variables : List Variable) (values : List Vector) → AreShaped variables values → All IsSmallVariable variables → All IsNarrow values
shaped_narrow [] [] shaped small = All-nil IsNarrow
shaped_narrow [] (value ∷ values) shaped small = absurd shaped
shaped_narrow (variable ∷ variables) [] shaped small = absurd shaped
shaped_narrow (variable ∷ variables) (value ∷ values) shaped small =
    let narrow = All-head IsSmallVariable variable variables small in
    All-cons IsNarrow value values (omega (arith, shaped.0.0, narrow.0)) (shaped_narrow variables values shaped.1 (All-tail IsSmallVariable variable variables small))

module _ (kept : IsAlwaysKept) (full : IsAlwaysFull) (shapes : IsAlwaysShaped) (ended : ShowsOnlySlotEnds) (setting : Setting) (log : List (ℕ × ℕ)) (n : ℕ)
    (small : IsSmall setting.design) (early : setting.until < 2 ^ 64) where
  item_short : (item : Item) → Contains (items_after setting log n) item → IsShort item
  item_short (SlotEnd time values) there =
      let at = ended setting log n time values there in
      let within = run_within kept setting log at.0 in
      let count = full setting log at.0 in
      let same = ap length at.2.values_are in
      let narrow = shaped_narrow setting.design.variables (state_after setting log at.0).values (shapes setting log at.0) small.narrow in
      let is = at.2.time_is in (
        omega (arith, within.1, is, early),
        omega (arith, count, same, small.variables),
        subst (All IsNarrow) at.2.values_are narrow,
      )
  item_short (Dump command) there = tt
  item_short (Line text) there = tt
  item_short (Monitor place) there = tt

  items_short : All IsShort (items_after setting log n)
  items_short = λ k d lt. item_short (slice_index_or (items_after setting log n) k d) (All-contains_itself (items_after setting log n) k d lt)

  pub run_short : n < 2 ^ 32 → length (vcd setting.design (history_after setting log n)) < 2 ^ 64
  run_short few =
      let within = run_within kept setting log n in
      let told = run_told setting log n in
      let long = dump_long setting.design small (history_after setting log n) items_short (omega (arith, within.1, early)) in
      omega (arith, told, long, few)
