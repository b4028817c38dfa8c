-- A step of a flat state stands for the step of the state of a run that it stands for.
use Rattle.std.proofs.Common.{◌≡◌, ℕ, zero, suc, ◌+◌, ◌≤◌, Bool, true, false, if◌then◌else◌, List, [], ◌∷◌, ◌++◌, map, Option, None, Some, refl, sym, ap, subst, ◌∙◌, arith}
use Rattle.std.specs.Prelude.{slice_get, slice_set}
use Rattle.vbits.specs.Vectors.{Vector}
use Rattle.vcode.specs.declared.point.Point.{Point}
use Rattle.vdesign.specs.Design.{Design}
use Rattle.vdesign.specs.declared.action.Action.{Action}
use Rattle.sched_core.specs.declared.end.Cause.{Cause}
use Rattle.vmodel.specs.declared.choice.Choice.{Choice}
use Rattle.vmodel.specs.declared.choice.Choice.TheVariants.{Run, Update, Advance}
use Rattle.vmodel.specs.Effects.{Effect, no_effect}
use Rattle.vmodel.specs.declared.effect.Shown.{Shown}
use Rattle.vmodel.specs.declared.effect.Shown.TheVariants.{Commands, Prints, Watches}
use Rattle.vmodel.specs.declared.history.Item.{Item}
use Rattle.vmodel.specs.declared.part.Part.{Part}
use Rattle.vmodel.specs.declared.frame.Frame.{Frame}
use Rattle.vmodel.specs.declared.frame.Frame.TheVariants.{Executing, Repeating, Writing}
use Rattle.vmodel.specs.Choices.{choices}
use Rattle.vmodel.specs.Kept.{RisesFrom, IsKept, count_in, asleep, places, most_places}
use Rattle.vmodel.specs.Parts.{with_parts}
use Rattle.vmodel.specs.Printed.{printed_after}
use Rattle.vmodel.specs.Queue.{Queue}
use Rattle.vmodel.specs.State.{Process, State, without_processes}
use Rattle.vmodel.specs.Step.{StepResult, Transition, place_of, execute_at, process_to_continue, process_by, with_strobe, with_moves_by, monitors_by, complete, with_step, with_woken, transition_with, no_transition, environment_of, held_of, action_transition, continuation_transition, first_of, without_update, with_update, with_advance, transition_of, shown_items, slot_end_by, line_item, strobe_items, before_end, items_of, with_held_after, with_views, transition_by, next}
use Rattle.vmodel.specs.Waking.{wakes, awake}
use Rattle.vmodel.proofs.MovedLemmas.{is_there, order-process_with_move}
use Rattle.vmodel.proofs.OpenLemmas.{IsOpen, open_choice}
use Rattle.vcompile.specs.CodeOf.{code_of}
use Rattle.vcompile.specs.Laws.{point_of, AreLed, turns_behind, TakesStep, IsLinked, IsHeardByAll}
use Rattle.vflat.specs.Flat.{Flat, point_in, held_by, flat_woken, frame_at, comes_to, rest_with_step, flat_placed, FlatTransition, rest_of, with_rest, flat_action, flat_frame, flat_updated, flat_transition_of, flat_viewed, flat_by, flat_next, waits_in, left_in, stand_of, StandsAlong, StandsFor, AreCounted, Matches}
use Rattle.vflat.proofs.ContinueLemmas.{before_left, continues, turns_as_many}
use Rattle.vflat.proofs.CounterLemmas.{enough_counters, counted_behind, counted_awake}
use Rattle.vflat.proofs.AlongLemmas.{goes_is, comes, placed, woken}

-- what stands for a transition of a state
pub record StandsForStep (design : Design) (x : FlatTransition) (y : Transition) : Type 0 where
  pub state : Matches design x.flat y.state
  pub effect : x.effect ≡ y.effect
  pub monitors : x.monitors ≡ y.monitors

-- ---- what is read of no process

shown_bare : (design : Design) (s : State) (shown : Option Shown) → shown_items design (without_processes s) shown ≡ shown_items design s shown
shown_bare design s None = refl
shown_bare design s (Some (Commands command)) = refl
shown_bare design s (Some (Prints place)) = refl
shown_bare design s (Some (Watches place)) = refl

strobes_bare : (design : Design) (s : State) (places : List ℕ) → strobe_items design (without_processes s) places ≡ strobe_items design s places
strobes_bare design s [] = refl
strobes_bare design s (place ∷ places) = ap (λ items. line_item design s place ∷ items) (strobes_bare design s places)

pub end_bare_by : (cause : Option Cause) (s : State) → slot_end_by cause (without_processes s) ≡ slot_end_by cause s
end_bare_by None s = refl
end_bare_by (Some cause) s = refl

-- the transition, where the state has no processes
abbrev pub bare_step : Transition → Transition
bare_step y = record y { state = without_processes y.state }

pub items_bare : (design : Design) (y : Transition) → items_of design (bare_step y) ≡ items_of design y
items_bare design y = λ i.
    shown_bare design y.state y.effect.shown i ++ before_end (strobes_bare design y.state y.monitors i) (end_bare_by y.state.cause y.state i)

moves_bare_by : (cause : Option Cause) (s : State) → with_moves_by cause (without_processes s) ≡ without_processes (with_moves_by cause s)
moves_bare_by None s = refl
moves_bare_by (Some cause) s = refl

monitors_bare_by : (cause : Option Cause) (s : State) → monitors_by cause (without_processes s) ≡ monitors_by cause s
monitors_bare_by None s = refl
monitors_bare_by (Some cause) s = refl

complete_bare : (effect : Effect) (s : State) → complete effect (without_processes s) ≡ bare_step (complete effect s)
complete_bare effect s = λ i. record { state = moves_bare_by s.cause s i; effect = effect; monitors = monitors_bare_by s.cause s i }

moves_processes_by : (cause : Option Cause) (s : State) → (with_moves_by cause s).processes ≡ s.processes
moves_processes_by None s = refl
moves_processes_by (Some cause) s = refl

views_bare : (design : Design) (t : State) (i : ℕ) (c : Choice) (y : Transition) →
    with_views design (without_processes t) i c (bare_step y) ≡ bare_step (with_views design t i c y)
views_bare design t i c y =
    ap (λ items. with_lines design t c (with_held_after t i c y) items) (items_bare design (with_held_after t i c y))
  where
    with_lines : Design → State → Choice → Transition → List Item → Transition
    with_lines design t c y items = record y { state = record (without_processes y.state) { printed = printed_after c items t.printed } }

-- ---- a state, and the flat one with this for what is no process's

-- the same processes stand in another state
stands_with : (design : Design) (f : Flat) (t u : State) → Matches design f t → u.processes ≡ t.processes → Matches design (record f { rest = without_processes u }) u
stands_with design f t u h e = record {
  rest = refl;
  held = h.held ∙ ap (map (λ (process : Process). process.held)) (sym e);
  stands = subst (λ ps. StandsFor design f.turns ps f.points) (sym e) h.stands;
  count = h.count;
  counted = subst (AreCounted (code_of design) f.turns) (sym e) h.counted;
}

-- what is no process's is that of a step of the state
rest_stands : (design : Design) (f : Flat) (t : State) (x y : Transition) → Matches design f t → y.state.processes ≡ t.processes → x ≡ bare_step y →
    StandsForStep design (with_rest f x) y
rest_stands design f t x y h processes e =
    subst (λ z. StandsForStep design (with_rest f z) y) (sym e)
    (record { state = stands_with design f t y.state h processes; effect = refl; monitors = refl })

-- ---- the region moves, and what is held back and printed

completes : (design : Design) (f : Flat) (t : State) (effect : Effect) → Matches design f t → StandsForStep design (with_rest f (complete effect f.rest)) (complete effect t)
completes design f t effect h =
    rest_stands design f t (complete effect f.rest) (complete effect t) h (moves_processes_by t.cause t)
    (ap (complete effect) h.rest ∙ complete_bare effect t)

whole_step : (x : FlatTransition) (y : Transition) → x.flat.rest ≡ without_processes y.state → x.effect ≡ y.effect → x.monitors ≡ y.monitors → rest_of x ≡ bare_step y
whole_step x y rest effect monitors = λ i. record { state = rest i; effect = effect i; monitors = monitors i }

viewed : (design : Design) (f : Flat) (t : State) (i : ℕ) (c : Choice) (x : FlatTransition) (y : Transition) → f.rest ≡ without_processes t → StandsForStep design x y →
    StandsForStep design (flat_viewed design f i c x) (with_views design t i c y)
viewed design f t i c x y rest h =
    rest_stands design x.flat y.state (with_views design f.rest i c (rest_of x)) (with_views design t i c y) h.state refl
    ((λ j. with_views design (rest j) i c (whole_step x y h.state.rest h.effect h.monitors j)) ∙ views_bare design t i c y)

-- ---- the values that processes hold

held_is : (processes : List Process) (p : ℕ) → held_by (map (λ (process : Process). process.held) processes) p ≡ held_of (slice_get processes p)
held_is [] p = refl
held_is (process ∷ rest) zero = refl
held_is (process ∷ rest) (suc p) = held_is rest p

held_set : (processes : List Process) (p : ℕ) (q : Process) →
    slice_set (map (λ (process : Process). process.held) processes) p q.held ≡ map (λ (process : Process). process.held) (slice_set processes p q)
held_set [] p q = refl
held_set (process ∷ rest) zero q = refl
held_set (process ∷ rest) (suc p) q = ap (λ held. process.held ∷ held) (held_set rest p q)

held_awake : (wake : Process → Bool) (processes : List Process) →
    map (λ (process : Process). process.held) (map (awake wake) processes) ≡ map (λ (process : Process). process.held) processes
held_awake wake [] = refl
held_awake wake (process ∷ rest) = λ i. by (wake process) i ∷ held_awake wake rest i
  where
    by : (b : Bool) → (if b then record process { waits = None } else process).held ≡ process.held
    by true = refl
    by false = refl

-- ---- waking

module _ (design : Design) (whole : (code_of design).whole ≡ true) (linked : IsLinked) (heard : IsHeardByAll) where
  woken_on : (points : List Point) (turns : List ℕ) (held : List (Option Vector)) (t : State) (before : List Vector) (wrote : List Part) (triggered : Option ℕ) →
      Matches design (record { points = points; turns = turns; held = held; rest = without_processes t }) t → t.values ≡ with_parts wrote before → RisesFrom 0 t.queue.active →
      Matches design (flat_woken (code_of design) before wrote triggered (record { points = points; turns = turns; held = held; rest = without_processes t })) (with_woken design before triggered t)
  woken_on points turns held t before wrote triggered h values rising =
      subst (λ after. Matches design (flat_woken (code_of design) before wrote triggered (record { points = points; turns = turns; held = held; rest = without_processes (record t { values = after }) }))
      (with_woken design before triggered (record t { values = after }))) (sym values) at_these
    where
      at_these : Matches design (flat_woken (code_of design) before wrote triggered (record { points = points; turns = turns; held = held; rest = without_processes (record t { values = with_parts wrote before }) }))
          (with_woken design before triggered (record t { values = with_parts wrote before }))
      at_these =
          let w = woken design whole linked heard turns before wrote triggered t.processes points t.queue.active h.stands rising in
          record {
            rest = λ i. record (without_processes t) { values = with_parts wrote before; queue = record t.queue { active = w.1 i } };
            held = h.held ∙ sym (held_awake (wakes design.actions before (with_parts wrote before) triggered) t.processes);
            stands = w.0;
            count = h.count;
            counted = counted_awake (code_of design) turns (wakes design.actions before (with_parts wrote before) triggered) t.processes h.counted;
          }

  woken_matches : (f : Flat) (t : State) (before : List Vector) (wrote : List Part) (triggered : Option ℕ) →
      Matches design f t → t.values ≡ with_parts wrote before → RisesFrom 0 t.queue.active →
      Matches design (flat_woken (code_of design) before wrote triggered f) (with_woken design before triggered t)
  woken_matches f t before wrote triggered h values rising =
      subst (λ s. Matches design (flat_woken (code_of design) before wrote triggered (record f { rest = s })) (with_woken design before triggered t)) (sym h.rest)
      (woken_on f.points f.turns f.held t before wrote triggered (record { rest = refl; held = h.held; stands = h.stands; count = h.count; counted = h.counted }) values rising)

  -- ---- a step of a process

  module _ (f : Flat) (t : State) (p : ℕ) (frame : Frame) (after : List Frame) (action : Action)
      (rest : f.rest ≡ without_processes t) (h : Matches design (record f { rest = without_processes t }) t) (kept : IsKept t)
      (waits : waits_in t.processes p ≡ None) (left : left_in t.processes p ≡ frame ∷ after)
      (there : slice_get design.actions (place_of frame) ≡ Some action) where
    takes : TakesStep design f.turns p frame after action
    takes = record {
      whole = whole;
      counters = enough_counters design f.turns h.count;
      there = there;
      led = subst (AreLed (code_of design) p f.turns) left (subst (λ o. StandsAlong design f.turns p o (left_in t.processes p)) waits (h.stands.along p));
    }

    -- what it does alone, and with what it has left
    alone : StepResult
    alone = execute_at frame action [] (held_of (slice_get t.processes p)) (environment_of design t)

    placed_matches : Matches design
        (flat_placed p alone.effect (turns_behind (code_of design) frame action (environment_of design t) f.turns)
        (comes_to (code_of design) (turns_behind (code_of design) frame action (environment_of design t) f.turns) (place_of frame) alone.continuation) (record f { rest = without_processes t }))
        (with_step p (before_left alone after) t)
    unfolding alone
    placed_matches = record {
      rest = ap (λ goes. rest_with_step p alone.effect goes (without_processes t))
          (goes_is p (comes_to (code_of design) (turns_behind (code_of design) frame action (environment_of design t) f.turns) (place_of frame) alone.continuation)
          (alone.continuation ++ after)
          (comes design whole linked f.turns p frame after action (held_of (slice_get t.processes p)) (environment_of design t) takes));
      held = ap (λ held. slice_set held p alone.effect.held) h.held ∙ held_set t.processes p (process_by (before_left alone after));
      stands = placed design whole linked f.turns p frame after action (held_of (slice_get t.processes p)) (environment_of design t) takes t.processes f.points h.stands
          (is_there t.processes p frame after left);
      count = turns_as_many (code_of design) frame action (environment_of design t) f.turns ∙ h.count;
      counted = counted_behind (code_of design) f.turns t.processes p (process_by (before_left alone after)) frame after action (held_of (slice_get t.processes p)) (environment_of design t)
          left (is_there t.processes p frame after left) refl takes.led.0.counted h.counted;
    }

    rises_still : RisesFrom 0 (with_step p (before_left alone after) t).queue.active
    unfolding alone
    rises_still = (order-process_with_move p alone.effect.disposition alone.effect.posted (process_to_continue p (alone.continuation ++ after))
        (with_strobe alone.effect.strobed t.queue)
        (record { active = kept.order.active; inactive = kept.order.inactive; future = kept.order.future })).active

    -- the flat state after it
    after_matches : Matches design
        (flat_woken (code_of design) t.values alone.effect.wrote alone.effect.triggered
        (flat_placed p alone.effect (turns_behind (code_of design) frame action (environment_of design t) f.turns)
        (comes_to (code_of design) (turns_behind (code_of design) frame action (environment_of design t) f.turns) (place_of frame) alone.continuation) (record f { rest = without_processes t })))
        (with_woken design t.values alone.effect.triggered (with_step p (before_left alone after) t))
    unfolding alone
    after_matches = woken_matches
        (flat_placed p alone.effect (turns_behind (code_of design) frame action (environment_of design t) f.turns)
        (comes_to (code_of design) (turns_behind (code_of design) frame action (environment_of design t) f.turns) (place_of frame) alone.continuation) (record f { rest = without_processes t }))
        (with_step p (before_left alone after) t) t.values alone.effect.wrote alone.effect.triggered placed_matches refl rises_still

    -- what the process holds is what is held for it
    holds_so : held_by f.held p ≡ held_of (slice_get t.processes p)
    holds_so = ap (λ held. held_by held p) h.held ∙ held_is t.processes p

    action_steps : StandsForStep design (flat_action design (code_of design) p frame (Some action) (record f { rest = without_processes t }))
        (transition_with design p (execute_at frame action after (held_of (slice_get t.processes p)) (environment_of design t)) t)
    unfolding alone
    action_steps =
        subst (λ (s : StepResult). StandsForStep design (flat_action design (code_of design) p frame (Some action) (record f { rest = without_processes t })) (transition_with design p s t))
        (sym (continues frame action after (held_of (slice_get t.processes p)) (environment_of design t)))
        (subst (λ held. StandsForStep design (by_held held) (transition_with design p (before_left alone after) t)) (sym holds_so)
        (completes design
        (flat_woken (code_of design) t.values alone.effect.wrote alone.effect.triggered
        (flat_placed p alone.effect (turns_behind (code_of design) frame action (environment_of design t) f.turns)
        (comes_to (code_of design) (turns_behind (code_of design) frame action (environment_of design t) f.turns) (place_of frame) alone.continuation) (record f { rest = without_processes t })))
        (with_woken design t.values alone.effect.triggered (with_step p (before_left alone after) t)) alone.effect after_matches))
      where
        -- the same with another value held
        by_step : StepResult → FlatTransition
        by_step step =
            let x = flat_woken (code_of design) t.values step.effect.wrote step.effect.triggered
            (flat_placed p step.effect (turns_behind (code_of design) frame action (environment_of design t) f.turns)
            (comes_to (code_of design) (turns_behind (code_of design) frame action (environment_of design t) f.turns) (place_of frame) step.continuation) (record f { rest = without_processes t })) in
            with_rest x (complete step.effect x.rest)

        by_held : Option Vector → FlatTransition
        by_held held = by_step (execute_at frame action [] held (environment_of design t))

  -- ---- a step of each choice, of a flat state whose rest is that of the state

  frame_is : (turns : List ℕ) (p : ℕ) (frame : Frame) (after : List Frame) → AreLed (code_of design) p turns (frame ∷ after) →
      frame_at (code_of design) turns (point_of frame) ≡ Some frame
  frame_is turns p (Executing place) after led = refl
  frame_is turns p (Repeating place n) after led = ap (λ m. Some (Repeating place m)) led.0.counted.1
  frame_is turns p (Writing place) after led = refl

  module _ (f : Flat) (t : State) (h : Matches design (record f { rest = without_processes t }) t) (kept : IsKept t) where
    nothing_steps : StandsForStep design (with_rest (record f { rest = without_processes t }) (no_transition (without_processes t))) (no_transition t)
    nothing_steps = record { state = h; effect = refl; monitors = refl }

    process_steps : (p : ℕ) (frame : Frame) (after : List Frame) → waits_in t.processes p ≡ None → left_in t.processes p ≡ frame ∷ after →
        (o : Option Action) → slice_get design.actions (place_of frame) ≡ o →
        StandsForStep design (flat_action design (code_of design) p frame o (record f { rest = without_processes t })) (action_transition design p frame o after t)
    process_steps p frame after waits left None e = nothing_steps
    process_steps p frame after waits left (Some action) e = action_steps (record f { rest = without_processes t }) t p frame after action refl h kept waits left e

    none_active : (p : ℕ) (few : ℕ) → count_in p t.queue.active + count_in p t.queue.inactive + asleep p t.queue.future ≤ few → few ≡ 0 → 1 ≤ count_in p t.queue.active → ⊥
    none_active p few most none active = absurd (omega (arith, most, none, active))

    run_by : (p : ℕ) → 1 ≤ count_in p t.queue.active → (waits : Option ℕ) (left : List Frame) → waits_in t.processes p ≡ waits → left_in t.processes p ≡ left →
        StandsForStep design (flat_transition_of design (code_of design) (Run p) (record f { rest = without_processes t })) (continuation_transition design p left t)
    run_by p active (Some place) left w l =
        absurd (none_active p (most_places (waits_in t.processes p) (left_in t.processes p)) (kept.place.once p) (λ i. most_places (w i) (l i)) active)
    run_by p active None [] w l =
        absurd (none_active p (most_places (waits_in t.processes p) (left_in t.processes p)) (kept.place.once p) (λ i. most_places (w i) (l i)) active)
    run_by p active None (frame ∷ after) w l =
        let led : AreLed (code_of design) p f.turns (frame ∷ after) =
        subst (AreLed (code_of design) p f.turns) l (subst (λ o. StandsAlong design f.turns p o (left_in t.processes p)) w (h.stands.along p)) in
        let stands : point_in f.points p ≡ point_of frame = h.stands.at p ∙ (λ i. stand_of (w i) (l i)) in
        let frame_here : frame_at (code_of design) f.turns (point_in f.points p) ≡ Some frame =
        ap (frame_at (code_of design) f.turns) stands ∙ frame_is f.turns p frame after led in
        subst (λ o. StandsForStep design (flat_frame design (code_of design) p o (record f { rest = without_processes t })) (continuation_transition design p (frame ∷ after) t))
        (sym frame_here)
        (process_steps p frame after w l (slice_get design.actions (place_of frame)) refl)

    run_steps : (p : ℕ) → 1 ≤ count_in p t.queue.active →
        StandsForStep design (flat_transition_of design (code_of design) (Run p) (record f { rest = without_processes t })) (transition_of design (Run p) t)
    run_steps p active = run_by p active (waits_in t.processes p) (left_in t.processes p) refl refl

    rises_without : (us : List (List Part)) (q : Queue) → RisesFrom 0 q.active → RisesFrom 0 (without_update us q).active
    rises_without [] q r = r
    rises_without (u ∷ us) q r = r

    update_steps : StandsForStep design (flat_transition_of design (code_of design) Update (record f { rest = without_processes t })) (transition_of design Update t)
    update_steps = completes design (flat_updated (code_of design) (record f { rest = without_processes t })) (with_woken design t.values None (with_update t))
        (record no_effect { wrote = first_of t.queue.activated })
        (woken_matches (record f { rest = with_update (without_processes t) }) (with_update t) t.values (first_of t.queue.activated) None
        (record { rest = refl; held = h.held; stands = h.stands; count = h.count; counted = h.counted }) refl (rises_without t.queue.activated t.queue kept.order.active))

    advance_steps : StandsForStep design (flat_transition_of design (code_of design) Advance (record f { rest = without_processes t })) (transition_of design Advance t)
    advance_steps =
        rest_stands design (record f { rest = without_processes t }) t (transition_of design Advance (without_processes t)) (transition_of design Advance t) h
        (moves_processes_by t.cause (record t { queue = with_advance t.queue.future t.queue }))
        (complete_bare no_effect (record t { queue = with_advance t.queue.future t.queue }))

    choice_steps : (c : Choice) → IsOpen c t.queue → StandsForStep design (flat_transition_of design (code_of design) c (record f { rest = without_processes t })) (transition_of design c t)
    choice_steps (Run p) offered = run_steps p offered
    choice_steps Update offered = update_steps
    choice_steps Advance offered = advance_steps

    next_by : (i : ℕ) (o : Option Choice) → slice_get (choices t) i ≡ o →
        StandsForStep design (flat_by design (code_of design) (record f { rest = without_processes t }) i o) (transition_by design t i o)
    next_by i None e = nothing_steps
    next_by i (Some c) e =
        viewed design (record f { rest = without_processes t }) t i c (flat_transition_of design (code_of design) c (record f { rest = without_processes t })) (transition_of design c t) refl
        (choice_steps c (open_choice t i c kept e).1)

  -- a step of a flat state stands for the step of the state that it stands for
  pub next_stands : (f : Flat) (t : State) (i : ℕ) → Matches design f t → IsKept t → StandsForStep design (flat_next design (code_of design) f i) (next design t i)
  next_stands f t i h kept =
      subst (λ s. StandsForStep design (flat_next design (code_of design) (record f { rest = s }) i) (next design t i)) (sym h.rest)
      (next_by f t (record { rest = refl; held = h.held; stands = h.stands; count = h.count; counted = h.counted }) kept i (slice_get (choices t) i) refl)
