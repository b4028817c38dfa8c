-- Steps that print nothing, whole: of no print task, where no monitor event waits. What the slot has printed stays.
use Rattle.std.proofs.Common.{◌≡◌, ℕ, false, List, [], ◌∷◌, ◌++◌, Option, Some, None, refl, sym, ap, ◌∙◌}
use Rattle.std.specs.Prelude.{slice_get, option_map}
use Rattle.std.specs.Option.{option_to_list}
use Rattle.vdesign.specs.Design.{Design}
use Rattle.vdesign.specs.declared.action.Action.{Action}
use Rattle.vmodel.specs.declared.choice.Choice.{Choice}
use Rattle.vmodel.specs.declared.choice.Choice.TheVariants.{Run, Update, Advance}
use Rattle.vmodel.specs.Effects.{Effect}
use Rattle.vmodel.specs.declared.frame.Frame.{Frame}
use Rattle.vmodel.specs.State.{State}
use Rattle.vmodel.specs.InnerStep.{transition_to}
use Rattle.vmodel.specs.InnerSilent.{is_some_print, ShowsNoLine}
use Rattle.plain_steps.specs.InnerPlain.{is_at_print, IsSilent}
use Rattle.plain_steps.specs.InnerMove.{first_action}
use Rattle.vmodel.specs.Printed.{lines_before}
use Rattle.plain_steps.proofs.ViewLemmas.{printed_stays}
use Rattle.vmodel.specs.Step.{Transition, StepResult, environment_of, execute_at, place_of, process_to_continue, posts, with_strobe, with_step, with_woken, action_transition, continuation_transition, continuation_of, held_of, with_update, with_advance, transition_of, with_held_after, with_views}
use Rattle.vmodel.proofs.SilentLemmas.{ShowsNothing, HasNoStrobe, execute_at-silent, posts-none, reschedule-none, update-none, advance-none, monitors-none, silent_printed}

-- ---- the step

abbrev IsSilentStep : Transition → Type 0
IsSilentStep transition = ShowsNoLine transition.effect.shown × (transition.monitors ≡ [])

action-silent : (design : Design) (p : ℕ) (frame : Frame) (action : Option Action) (after : List Frame) (s : State) → HasNoStrobe s.queue →
    is_some_print action ≡ false → IsSilentStep (action_transition design p frame action after s)
action-silent design p frame None after s none other = (tt, refl)
action-silent design p frame (Some action) after s none other =
    let step : StepResult = execute_at frame action after (held_of (slice_get s.processes p)) (environment_of design s) in
    let shows : ShowsNothing step.effect = execute_at-silent frame action after (held_of (slice_get s.processes p)) (environment_of design s) other in
    let strobed : HasNoStrobe (with_strobe step.effect.strobed s.queue) =
    (λ k. none k ++ option_to_list (shows.strobed k)) in
    let moved : HasNoStrobe (with_step p step s).queue =
    reschedule-none p step.effect.disposition (process_to_continue p step.continuation) (posts step.effect.posted (with_strobe step.effect.strobed s.queue))
    (posts-none step.effect.posted (with_strobe step.effect.strobed s.queue) strobed) in
    (shows.shown, monitors-none (with_woken design s.values step.effect.triggered (with_step p step s)) moved)

process-silent : (design : Design) (p : ℕ) (continuation : List Frame) (s : State) → HasNoStrobe s.queue →
    is_some_print (first_action design.actions continuation) ≡ false → IsSilentStep (continuation_transition design p continuation s)
process-silent design p [] s none other = (tt, refl)
process-silent design p (frame ∷ after) s none other = action-silent design p frame (slice_get design.actions (place_of frame)) after s none other

pub silent : (design : Design) (c : Choice) (s : State) → s.queue.strobes ≡ [] → is_at_print design c s ≡ false → IsSilent design c s
silent design (Run p) s none other = process-silent design p (continuation_of (slice_get s.processes p)) s none other
silent design Update s none other =
    (tt, monitors-none (with_woken design s.values None (with_update s)) (update-none s.queue.activated s.queue none))
silent design Advance s none other =
    (tt, monitors-none (record s { queue = with_advance s.queue.future s.queue }) (advance-none s.queue.future s.queue none))

-- ---- the lines of the slot

pub silent_view : (design : Design) (i : ℕ) (c : Choice) (s moved : State) (printed : Option (List (List ℕ))) (effect : Effect) (monitors : List ℕ) →
    IsSilent design c s → with_held_after s i c (transition_of design c s) ≡ transition_to moved effect monitors →
    printed ≡ option_map (lines_before c) moved.printed →
    with_views design s i c (transition_of design c s) ≡ transition_to (record moved { printed = printed }) effect monitors
silent_view design i c s moved printed effect monitors quiet step is =
    let x = with_held_after s i c (transition_of design c s) in
    let kept : moved.printed ≡ s.printed = sym (ap (λ (t : Transition). t.state.printed) step) ∙ printed_stays design c s in
    ap (λ (o : Option (List (List ℕ))). record x { state = record x.state { printed = o } })
    (silent_printed design c x s.printed quiet.0 quiet.1 ∙ ap (option_map (lines_before c)) (sym kept) ∙ sym is)
    ∙ ap (λ (t : Transition). record t { state = record t.state { printed = printed } }) step
