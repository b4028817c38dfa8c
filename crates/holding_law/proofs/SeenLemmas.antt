-- A step reads neither what is held back nor the lines of the slot.
use Rattle.std.proofs.Common.{◌≡◌, ℕ, List, [], ◌∷◌, ◌++◌, Option, Some, None, refl, ap}
use Rattle.std.specs.Prelude.{slice_get}
use Rattle.vdesign.specs.Design.{Design}
use Rattle.vdesign.specs.declared.action.Action.{Action}
use Rattle.sched_core.specs.declared.end.Cause.{Cause}
use Rattle.vmodel.specs.declared.history.Item.{Item}
use Rattle.vmodel.specs.Effects.{Effect, no_effect}
use Rattle.vmodel.specs.declared.effect.Shown.{Shown}
use Rattle.vmodel.specs.declared.effect.Shown.TheVariants.{Commands, Prints, Watches}
use Rattle.vmodel.specs.declared.frame.Frame.{Frame}
use Rattle.vmodel.specs.declared.choice.Choice.{Choice}
use Rattle.vmodel.specs.declared.choice.Choice.TheVariants.{Run, Update, Advance}
use Rattle.vmodel.specs.State.{State}
use Rattle.vmodel.specs.InnerStep.{transition_to}
use Rattle.vmodel.specs.Step.{Transition, environment_of, execute_at, held_of, with_step, place_of, with_moves_by, with_woken, monitors_by, complete, first_of, with_update, with_advance, action_transition, continuation_transition, continuation_of, transition_of, line_item, shown_items, slot_end_by, slot_end_of, strobe_items, before_end, items_of}

-- a state with this held back and printed, and a step whose state has that
abbrev pub with_seen : Option (List ℕ) → Option (List (List ℕ)) → State → State
with_seen held printed s = record s { held_back = held; printed = printed }

abbrev pub with_seen_after : Option (List ℕ) → Option (List (List ℕ)) → Transition → Transition
with_seen_after held printed transition = record transition { state = with_seen held printed transition.state }

module _ (held : Option (List ℕ)) (printed : Option (List (List ℕ))) where
  complete-seen : (effect : Effect) (s : State) → complete effect (with_seen held printed s) ≡ with_seen_after held printed (complete effect s)
  complete-seen effect s = by_cause s.cause
    where
      by_cause : (cause : Option Cause) →
          transition_to (with_moves_by cause (with_seen held printed s)) effect (monitors_by cause (with_seen held printed s))
          ≡ transition_to (with_seen held printed (with_moves_by cause s)) effect (monitors_by cause s)
      by_cause (Some cause) = refl
      by_cause None = refl

  action-seen : (design : Design) (p : ℕ) (frame : Frame) (action : Option Action) (after : List Frame) (s : State) →
      action_transition design p frame action after (with_seen held printed s) ≡ with_seen_after held printed (action_transition design p frame action after s)
  action-seen design p frame None after s = refl
  action-seen design p frame (Some action) after s =
      let step = execute_at frame action after (held_of (slice_get s.processes p)) (environment_of design s) in
      complete-seen step.effect (with_woken design s.values step.effect.triggered (with_step p step s))

  process-seen : (design : Design) (p : ℕ) (continuation : List Frame) (s : State) →
      continuation_transition design p continuation (with_seen held printed s) ≡ with_seen_after held printed (continuation_transition design p continuation s)
  process-seen design p [] s = refl
  process-seen design p (frame ∷ after) s = action-seen design p frame (slice_get design.actions (place_of frame)) after s

  pub transition-seen : (design : Design) (c : Choice) (s : State) →
      transition_of design c (with_seen held printed s) ≡ with_seen_after held printed (transition_of design c s)
  transition-seen design (Run p) s = process-seen design p (continuation_of (slice_get s.processes p)) s
  transition-seen design Update s =
      complete-seen (record no_effect { wrote = first_of s.queue.activated }) (with_woken design s.values None (with_update s))
  transition-seen design Advance s = complete-seen no_effect (record s { queue = with_advance s.queue.future s.queue })

  shown-seen : (design : Design) (s : State) (shown : Option Shown) → shown_items design (with_seen held printed s) shown ≡ shown_items design s shown
  shown-seen design s None = refl
  shown-seen design s (Some (Commands command)) = refl
  shown-seen design s (Some (Prints place)) = refl
  shown-seen design s (Some (Watches place)) = refl

  strobes-seen : (design : Design) (s : State) (places : List ℕ) → strobe_items design (with_seen held printed s) places ≡ strobe_items design s places
  strobes-seen design s [] = refl
  strobes-seen design s (place ∷ places) = ap (λ (items : List Item). line_item design s place ∷ items) (strobes-seen design s places)

  end-seen : (s : State) → slot_end_of (with_seen held printed s) ≡ slot_end_of s
  end-seen s = by_cause s.cause
    where
      by_cause : (cause : Option Cause) → slot_end_by cause (with_seen held printed s) ≡ slot_end_by cause s
      by_cause (Some cause) = refl
      by_cause None = refl

  -- what a step gives to the history is that of the step within
  pub items-seen : (design : Design) (transition : Transition) → items_of design (with_seen_after held printed transition) ≡ items_of design transition
  items-seen design transition = λ k.
      shown-seen design transition.state transition.effect.shown k
      ++ before_end (strobes-seen design transition.state transition.monitors k) (end-seen transition.state k)
