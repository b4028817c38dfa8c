-- Steps of flat states that print nothing: of no print task, where no monitor event waits.
use Rattle.std.proofs.Common.{◌≡◌, ℕ, false, List, [], ◌++◌, Option, Some, None, option_map, refl, sym, ap, ◌∙◌}
use Rattle.std.specs.Prelude.{slice_get}
use Rattle.std.specs.Option.{option_to_list}
use Rattle.vcode.specs.Code.{Code}
use Rattle.vdesign.specs.Design.{Design}
use Rattle.vdesign.specs.declared.action.Action.{Action}
use Rattle.vmodel.specs.declared.choice.Choice.{Choice}
use Rattle.vmodel.specs.declared.choice.Choice.TheVariants.{Run, Update, Advance}
use Rattle.vmodel.specs.Effects.{Effect}
use Rattle.vmodel.specs.declared.frame.Frame.{Frame}
use Rattle.vmodel.specs.InnerSilent.{is_some_print, ShowsNoLine}
use Rattle.vmodel.specs.Printed.{lines_before}
use Rattle.vmodel.specs.State.{State}
use Rattle.vmodel.specs.Step.{StepResult, environment_of, place_of, posts, with_strobe, reschedule, with_advance}
use Rattle.vmodel.proofs.SilentLemmas.{ShowsNothing, HasNoStrobe, execute_at-silent, posts-none, reschedule-none, update-none, advance-none, monitors-none, silent_printed}
use Rattle.vcompile.specs.Laws.{turns_behind}
use Rattle.vflat.specs.Flat.{Flat, FlatTransition, point_in, held_by, frame_at, comes_to, goes_from, step_alone, flat_after, flat_action, flat_frame, flat_updated, flat_transition_of, flat_viewed, rest_of, with_rest}
use Rattle.vflat.specs.InnerFlat.{action_there, is_at_print, IsSilent, held_view, flat_to}
use Rattle.vflat.proofs.FlatLemmas.{step_prints}

abbrev IsSilentStep : FlatTransition → Type 0
IsSilentStep x = ShowsNoLine x.effect.shown × (x.monitors ≡ [])

action_silent : (design : Design) (code : Code) (p : ℕ) (frame : Frame) (action : Option Action) (f : Flat) → HasNoStrobe f.rest.queue →
    is_some_print action ≡ false → IsSilentStep (flat_action design code p frame action f)
action_silent design code p frame None f none other = (tt, refl)
action_silent design code p frame (Some action) f none other =
    let step : StepResult = step_alone design p frame action f in
    let shows : ShowsNothing step.effect = execute_at-silent frame action [] (held_by f.held p) (environment_of design f.rest) other in
    let strobed : HasNoStrobe (with_strobe step.effect.strobed f.rest.queue) =
    (λ k. none k ++ option_to_list (shows.strobed k)) in
    let turns = turns_behind code frame action (environment_of design f.rest) f.turns in
    let goes : Option ℕ = goes_from p (comes_to code turns (place_of frame) step.continuation) in
    let moved : HasNoStrobe (reschedule p step.effect.disposition goes (posts step.effect.posted (with_strobe step.effect.strobed f.rest.queue))) =
    reschedule-none p step.effect.disposition goes (posts step.effect.posted (with_strobe step.effect.strobed f.rest.queue))
    (posts-none step.effect.posted (with_strobe step.effect.strobed f.rest.queue) strobed) in
    (shows.shown, monitors-none (flat_after design code p frame action f).rest moved)

frame_silent : (design : Design) (code : Code) (p : ℕ) (frame : Option Frame) (f : Flat) → HasNoStrobe f.rest.queue →
    is_some_print (action_there design.actions frame) ≡ false → IsSilentStep (flat_frame design code p frame f)
frame_silent design code p None f none other = (tt, refl)
frame_silent design code p (Some frame) f none other = action_silent design code p frame (slice_get design.actions (place_of frame)) f none other

pub silent_flat : (design : Design) (code : Code) (c : Choice) (f : Flat) → f.rest.queue.strobes ≡ [] → is_at_print design code c f ≡ false → IsSilent design code c f
silent_flat design code (Run p) f none other = frame_silent design code p (frame_at code f.turns (point_in f.points p)) f none other
silent_flat design code Update f none other =
    (tt, monitors-none (flat_updated code f).rest (update-none f.rest.queue.activated f.rest.queue none))
silent_flat design code Advance f none other =
    (tt, monitors-none (record f.rest { queue = with_advance f.rest.queue.future f.rest.queue }) (advance-none f.rest.queue.future f.rest.queue none))

-- ---- the lines of the slot

abbrev with_bag : Option (List (List ℕ)) → FlatTransition → FlatTransition
with_bag bag x = with_rest x.flat (record (rest_of x) { state = record x.flat.rest { printed = bag } })

-- what the slot has printed stays
pub silent_view : (design : Design) (code : Code) (i : ℕ) (c : Choice) (f moved : Flat) (rest : State) (effect : Effect) (monitors : List ℕ) →
    IsSilent design code c f → held_view f i c (flat_transition_of design code c f) ≡ flat_to moved effect monitors →
    rest ≡ record moved.rest { printed = option_map (lines_before c) moved.rest.printed } →
    flat_viewed design f i c (flat_transition_of design code c f) ≡ flat_to (record moved { rest = rest }) effect monitors
silent_view design code i c f moved rest effect monitors quiet step is =
    let x : FlatTransition = held_view f i c (flat_transition_of design code c f) in
    let same : f.rest.printed ≡ moved.rest.printed =
    sym (step_prints design code c f) ∙ ap (λ (y : FlatTransition). y.flat.rest.printed) step in
    ap (λ bag. with_bag bag x) (silent_printed design c (rest_of x) f.rest.printed quiet.0 quiet.1 ∙ ap (option_map (lines_before c)) same)
    ∙ ap (with_bag (option_map (lines_before c) moved.rest.printed)) step
    ∙ ap (λ (r : State). flat_to (record moved { rest = r }) effect monitors) (sym is)
