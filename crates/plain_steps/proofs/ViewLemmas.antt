-- What is held back and printed: what a choice takes changes neither, and reads neither.
use Rattle.std.proofs.Common.{◌≡◌, ℕ, List, [], ◌∷◌, ◌++◌, Option, Some, None, refl, sym, ap, ◌∙◌}
use Rattle.std.specs.Prelude.{slice_get, Result, Ok, Err, IfOk}
use Rattle.vdesign.specs.Design.{Design}
use Rattle.vdesign.specs.declared.action.Action.{Action}
use Rattle.sched_core.specs.declared.end.Cause.{Cause}
use Rattle.vmodel.specs.declared.history.Item.{Item}
use Rattle.vmodel.specs.Effects.{Effect, no_effect}
use Rattle.vmodel.specs.declared.effect.Shown.{Shown}
use Rattle.vmodel.specs.declared.effect.Shown.TheVariants.{Commands, Prints, Watches}
use Rattle.vmodel.specs.declared.frame.Frame.{Frame}
use Rattle.vmodel.specs.declared.choice.Choice.{Choice}
use Rattle.vmodel.specs.declared.choice.Choice.TheVariants.{Run, Update, Advance}
use Rattle.vmodel.specs.State.{State}
use Rattle.vmodel.specs.InnerStep.{transition_to}
use Rattle.vmodel.specs.Holding.{held_after}
use Rattle.vmodel.specs.Printed.{printed_after}
use Rattle.vmodel.specs.Choices.{choices}
use Rattle.vmodel.specs.Step.{Transition, environment_of, execute_at, held_of, with_step, place_of, with_moves_by, with_woken, with_moves, monitors_by, complete, first_of, with_update, with_advance, action_transition, continuation_transition, continuation_of, transition_of, line_item, shown_items, slot_end_by, slot_end_of, strobe_items, before_end, items_of, with_held_after, with_lines_after, with_views, transition_by, next}

-- ---- what stays

-- both are the same in two states
record LookAlike (s t : State) : Type 0 where
  pub held_back : t.held_back ≡ s.held_back
  pub printed : t.printed ≡ s.printed

moves_stay : (s t : State) → LookAlike s t → LookAlike s (with_moves t)
moves_stay s t alike = by_cause t.cause
  where
    by_cause : (cause : Option Cause) → LookAlike s (with_moves_by cause t)
    by_cause (Some cause) = alike
    by_cause None = record { held_back = alike.held_back; printed = alike.printed }

action_stays : (design : Design) (p : ℕ) (frame : Frame) (action : Option Action) (after : List Frame) (s : State) →
    LookAlike s (action_transition design p frame action after s).state
action_stays design p frame None after s = record { held_back = refl; printed = refl }
action_stays design p frame (Some action) after s =
    let step = execute_at frame action after (held_of (slice_get s.processes p)) (environment_of design s) in
    moves_stay s (with_woken design s.values step.effect.triggered (with_step p step s)) (record { held_back = refl; printed = refl })

process_stays : (design : Design) (p : ℕ) (continuation : List Frame) (s : State) → LookAlike s (continuation_transition design p continuation s).state
process_stays design p [] s = record { held_back = refl; printed = refl }
process_stays design p (frame ∷ after) s = action_stays design p frame (slice_get design.actions (place_of frame)) after s

stays : (design : Design) (c : Choice) (s : State) → LookAlike s (transition_of design c s).state
stays design (Run p) s = process_stays design p (continuation_of (slice_get s.processes p)) s
stays design Update s = moves_stay s (with_woken design s.values None (with_update s)) (record { held_back = refl; printed = refl })
stays design Advance s = moves_stay s (record s { queue = with_advance s.queue.future s.queue }) (record { held_back = refl; printed = refl })

pub held_stays : (design : Design) (c : Choice) (s : State) → (transition_of design c s).state.held_back ≡ s.held_back
held_stays design c s = (stays design c s).held_back

pub printed_stays : (design : Design) (c : Choice) (s : State) → (transition_of design c s).state.printed ≡ s.printed
printed_stays design c s = (stays design c s).printed

pub no_held : (design : Design) (i : ℕ) (c : Choice) (s : State) (transition : Transition) → s.held_back ≡ None → transition_of design c s ≡ transition →
    with_held_after s i c (transition_of design c s) ≡ transition
no_held design i c s transition none is =
    let stay : held_after s.held_back s.queue i c (transition_of design c s).state.queue ≡ (transition_of design c s).state.held_back =
    ap (λ (o : Option (List ℕ)). held_after o s.queue i c (transition_of design c s).state.queue) none ∙ sym none ∙ sym (held_stays design c s) in
    ap (λ (o : Option (List ℕ)). record (transition_of design c s) { state = record (transition_of design c s).state { held_back = o } }) stay ∙ is

pub no_lines : (design : Design) (c : Choice) (s : State) (before transition : Transition) → s.printed ≡ None → before.state.printed ≡ s.printed → before ≡ transition →
    with_lines_after design s c before ≡ transition
no_lines design c s before transition none same is =
    let stay : printed_after c (items_of design before) s.printed ≡ before.state.printed =
    ap (printed_after c (items_of design before)) none ∙ sym none ∙ sym same in
    ap (λ (o : Option (List (List ℕ))). record before { state = record before.state { printed = o } }) stay ∙ is

-- a step where departures only take and no lines are looked at
pub plain : (design : Design) (i : ℕ) (c : Choice) (s : State) (transition : Transition) → s.held_back ≡ None → s.printed ≡ None →
    slice_get (choices s) i ≡ Some c → transition_of design c s ≡ transition → next design s i ≡ transition
plain design i c s transition none unseen there is =
    ap (transition_by design s i) there
    ∙ no_lines design c s (with_held_after s i c (transition_of design c s)) transition unseen (printed_stays design c s) (no_held design i c s transition none is)

pub plain_ok : {E : Type 0} (design : Design) (i : ℕ) (c : Choice) (s new : State) (monitors : List ℕ) (result : Result Effect E) →
    s.held_back ≡ None → s.printed ≡ None → slice_get (choices s) i ≡ Some c →
    IfOk result (λ effect. transition_of design c s ≡ transition_to new effect monitors) →
    IfOk result (λ effect. next design s i ≡ transition_to new effect monitors)
plain_ok design i c s new monitors (Ok effect) none unseen there is = plain design i c s (transition_to new effect monitors) none unseen there is
plain_ok design i c s new monitors (Err refused) none unseen there is = is

-- a step by a copy, whose lines were put into its bag
pub viewed : (design : Design) (i : ℕ) (c : Choice) (s after moved printed swapped : State) (effect : Effect) (ran list monitors : List ℕ) →
    after ≡ s → with_held_after after i c (transition_of design c after) ≡ transition_to moved effect ran → list ≡ ran →
    transition_to printed effect list ≡ with_lines_after design moved c (transition_to moved effect list) →
    swapped ≡ printed → monitors ≡ ran → with_views design s i c (transition_of design c s) ≡ transition_to swapped effect monitors
viewed design i c s after moved printed swapped effect ran list monitors copied step listed lines state_is monitors_are =
    let same : s.printed ≡ moved.printed =
    sym (ap (λ (x : State). x.printed) copied) ∙ sym (printed_stays design c after) ∙ ap (λ (x : Transition). x.state.printed) step in
    ap (λ (x : State). with_lines_after design s c (with_held_after x i c (transition_of design c x))) (sym copied)
    ∙ ap (with_lines_after design s c) step
    ∙ ap (λ (o : Option (List (List ℕ))). transition_to (record moved { printed = printed_after c (items_of design (transition_to moved effect ran)) o }) effect ran) same
    ∙ ap (λ (ms : List ℕ). with_lines_after design moved c (transition_to moved effect ms)) (sym listed)
    ∙ sym lines
    ∙ (λ k. transition_to (sym state_is k) effect ((listed ∙ sym monitors_are) k))

-- ---- a step reads none of it

-- a state with this held back and printed, and a step whose state has that
abbrev pub with_seen : Option (List ℕ) → Option (List (List ℕ)) → State → State
with_seen held printed s = record s { held_back = held; printed = printed }

abbrev pub with_seen_after : Option (List ℕ) → Option (List (List ℕ)) → Transition → Transition
with_seen_after held printed transition = record transition { state = with_seen held printed transition.state }

module _ (held : Option (List ℕ)) (printed : Option (List (List ℕ))) where
  complete-seen : (effect : Effect) (s : State) → complete effect (with_seen held printed s) ≡ with_seen_after held printed (complete effect s)
  complete-seen effect s = by_cause s.cause
    where
      by_cause : (cause : Option Cause) →
          transition_to (with_moves_by cause (with_seen held printed s)) effect (monitors_by cause (with_seen held printed s))
          ≡ transition_to (with_seen held printed (with_moves_by cause s)) effect (monitors_by cause s)
      by_cause (Some cause) = refl
      by_cause None = refl

  action-seen : (design : Design) (p : ℕ) (frame : Frame) (action : Option Action) (after : List Frame) (s : State) →
      action_transition design p frame action after (with_seen held printed s) ≡ with_seen_after held printed (action_transition design p frame action after s)
  action-seen design p frame None after s = refl
  action-seen design p frame (Some action) after s =
      let step = execute_at frame action after (held_of (slice_get s.processes p)) (environment_of design s) in
      complete-seen step.effect (with_woken design s.values step.effect.triggered (with_step p step s))

  process-seen : (design : Design) (p : ℕ) (continuation : List Frame) (s : State) →
      continuation_transition design p continuation (with_seen held printed s) ≡ with_seen_after held printed (continuation_transition design p continuation s)
  process-seen design p [] s = refl
  process-seen design p (frame ∷ after) s = action-seen design p frame (slice_get design.actions (place_of frame)) after s

  pub transition-seen : (design : Design) (c : Choice) (s : State) →
      transition_of design c (with_seen held printed s) ≡ with_seen_after held printed (transition_of design c s)
  transition-seen design (Run p) s = process-seen design p (continuation_of (slice_get s.processes p)) s
  transition-seen design Update s =
      complete-seen (record no_effect { wrote = first_of s.queue.activated }) (with_woken design s.values None (with_update s))
  transition-seen design Advance s = complete-seen no_effect (record s { queue = with_advance s.queue.future s.queue })

  shown-seen : (design : Design) (s : State) (shown : Option Shown) → shown_items design (with_seen held printed s) shown ≡ shown_items design s shown
  shown-seen design s None = refl
  shown-seen design s (Some (Commands command)) = refl
  shown-seen design s (Some (Prints place)) = refl
  shown-seen design s (Some (Watches place)) = refl

  strobes-seen : (design : Design) (s : State) (places : List ℕ) → strobe_items design (with_seen held printed s) places ≡ strobe_items design s places
  strobes-seen design s [] = refl
  strobes-seen design s (place ∷ places) = ap (λ (items : List Item). line_item design s place ∷ items) (strobes-seen design s places)

  end-seen : (s : State) → slot_end_of (with_seen held printed s) ≡ slot_end_of s
  end-seen s = by_cause s.cause
    where
      by_cause : (cause : Option Cause) → slot_end_by cause (with_seen held printed s) ≡ slot_end_by cause s
      by_cause (Some cause) = refl
      by_cause None = refl

  -- what a step gives to the history is that of the step within
  pub items-seen : (design : Design) (transition : Transition) → items_of design (with_seen_after held printed transition) ≡ items_of design transition
  items-seen design transition = λ k.
      shown-seen design transition.state transition.effect.shown k
      ++ before_end (strobes-seen design transition.state transition.monitors k) (end-seen transition.state k)

-- ---- settings beside each other

abbrev pub without_lines : State → State
without_lines s = with_seen s.held_back None s

abbrev pub holding_none : State → State
holding_none s = with_seen (Some []) s.printed s

-- the same step where values alone are looked at
pub values_step : (design : Design) (i : ℕ) (o : Option Choice) (s : State) →
    transition_by design (without_lines s) i o
    ≡ with_seen_after (transition_by design s i o).state.held_back None (transition_by design s i o)
values_step design i None s = refl
values_step design i (Some c) s = ap (with_views design (without_lines s) i c) (transition-seen s.held_back None design c s)

-- the same step where departures may hold back, by a choice that holds back nobody
pub holding_step : (design : Design) (i : ℕ) (c : Choice) (s : State) →
    held_after (Some []) s.queue i c (transition_of design c s).state.queue ≡ Some [] →
    with_views design (holding_none s) i c (transition_of design c (holding_none s))
    ≡ with_seen_after (Some []) (with_views design s i c (transition_of design c s)).state.printed (with_views design s i c (transition_of design c s))
holding_step design i c s none =
    let t = transition_of design c s in
    let now = held_after (Some []) s.queue i c t.state.queue in
    let items : items_of design (with_seen_after now s.printed t) ≡ items_of design (with_held_after s i c t) =
    items-seen now s.printed design t ∙ sym (items-seen (held_after s.held_back s.queue i c t.state.queue) t.state.printed design t) in
    ap (with_views design (holding_none s) i c) (transition-seen (Some []) s.printed design c s)
    ∙ (λ k. with_seen_after (none k) (printed_after c (items k) s.printed) t)
