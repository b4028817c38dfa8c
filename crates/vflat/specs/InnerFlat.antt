-- *internal*: How the step of a flat state is told in parts: words for the contracts of parts within.
use Rattle.std.specs.Prelude.{◌≡◌, ℕ, Bool, true, false, List, [], slice_get, slice_set, Option, Some, None}
use Rattle.std.specs.Borrow.{Bor}
use Rattle.vcode.specs.declared.point.Point.{Point}
use Rattle.vcode.specs.declared.listener.Listener.{Listener}
use Rattle.vbits.specs.Vectors.{Vector}
use Rattle.vcode.specs.Code.{Code, with_turns, operand_value}
use Rattle.vdesign.specs.declared.action.Edge.{Edge}
use Rattle.vdesign.specs.declared.action.Action.{Action}
use Rattle.vdesign.specs.declared.action.Term.{Term}
use Rattle.vmodel.specs.declared.part.Part.{Part}
use Rattle.vmodel.specs.declared.choice.Choice.{Choice}
use Rattle.vmodel.specs.declared.choice.Choice.TheVariants.{Run, Update, Advance}
use Rattle.vmodel.specs.Effects.{Effect}
use Rattle.vmodel.specs.declared.frame.Frame.{Frame}
use Rattle.vmodel.specs.declared.frame.Frame.TheVariants.{Executing, Repeating, Writing}
use Rattle.vdesign.specs.Design.{Design}
use Rattle.vmodel.specs.InnerSilent.{is_some_print, ShowsNoLine}
use Rattle.vmodel.specs.InnerWaking.{with_active}
use Rattle.vmodel.specs.Parts.{with_parts}
use Rattle.vmodel.specs.InnerStep.{behind}
use Rattle.vmodel.specs.Step.{place_of, frames, posts, with_strobe, reschedule, complete, with_held_after}
use Rattle.vmodel.specs.Waking.{is_edge}
use Rattle.vflat.specs.declared.flat_step.News.{News}
use Rattle.vflat.specs.declared.flat_step.News.TheVariants.{Changed, Triggered}
use Rattle.vflat.specs.Flat.{Flat, Woken, FlatTransition, with_listeners, with_terms, flat_woken, point_in, frame_at, flat_transition_of, comes_to, goes_from, stands_by, rest_of, with_rest}

-- whether what is told is heard of an edge
abbrev pub is_heard : News → Edge → Bool
is_heard (Changed old new) edge = is_edge edge old new
is_heard Triggered edge = true

-- where the processes stand, and which are active
abbrev pub woken_of : Flat → Woken
woken_of f = record { points = f.points; active = f.rest.queue.active }

-- the flat state where they stand so
abbrev pub with_woken : Woken → Flat → Flat
with_woken w f = record f { points = w.points; rest = record f.rest { queue = with_active w.active f.rest.queue } }

-- those wake that hear
abbrev pub heard_by : Code → News → List Listener → Flat → Flat
heard_by code news listeners f = with_woken (with_listeners code f.turns (is_heard news) listeners (woken_of f)) f

-- those wake that listen to one of these terms, where these parts are to be written
abbrev pub told_of : Code → List Part → Option ℕ → List Term → Flat → Flat
told_of code parts triggered terms f =
    with_woken (with_terms code f.turns f.rest.values (with_parts parts f.rest.values) triggered terms (woken_of f)) f

-- counters where so many turns are left at a place, if it is told how many
abbrev pub with_left : Code → ℕ → Option ℕ → List ℕ → List ℕ
with_left code place None turns = turns
with_left code place (Some n) turns = with_turns code place n turns

-- the process is placed that comes to a point, and the queue has what becomes of it
abbrev pub with_move : ℕ → Effect → List ℕ → Point → Flat → Flat
with_move p effect turns to f = record {
  points = slice_set f.points p (stands_by effect.disposition to);
  turns = turns;
  held = slice_set f.held p effect.held;
  rest = record f.rest {
    queue = reschedule p effect.disposition (goes_from p to) (posts effect.posted (with_strobe effect.strobed f.rest.queue));
  };
}

abbrev pub flat_to : Flat → Effect → List ℕ → FlatTransition
flat_to flat effect monitors = record { flat = flat; effect = effect; monitors = monitors }

-- the parts are written, and those wake who wait for what that changes, or for the event
abbrev pub write_and_wake : Code → List Part → Option ℕ → Flat → Flat
write_and_wake code wrote triggered f =
    flat_woken code f.rest.values wrote triggered (record f { rest = record f.rest { values = with_parts wrote f.rest.values } })

-- a process is placed that executed a frame, after which so many turns are left, these places come, and then this frame
abbrev pub place_process : Code → ℕ → Frame → Option ℕ → List ℕ → Option Frame → Effect → Flat → Flat
place_process code p frame left next then effect f =
    let turns = with_left code (place_of frame) left f.turns in
    with_move p effect turns (comes_to code turns (place_of frame) (frames next (behind then []))) f

-- what the step of a process that is placed did besides, and the region moves
abbrev pub finish : Code → Effect → Flat → FlatTransition
finish code effect f =
    let after = write_and_wake code effect.wrote effect.triggered f in
    with_rest after (complete effect (record after.rest { cause = effect.cause }))

-- the action at the place of a frame, if there is one
abbrev pub action_there : List Action → Option Frame → Option Action
action_there actions None = None
action_there actions (Some frame) = slice_get actions (place_of frame)

-- the frame and the action at its place, or none where either is missing
abbrev pub IsNext : List Action → Option Frame → Option (Frame × Bor Action) → Type 0
IsNext actions at None = action_there actions at ≡ None
IsNext actions at (Some found) = (at ≡ Some found.0) × (slice_get actions (place_of found.0) ≡ Some found.1.now)

-- whether the choice is of a process that comes to a print task
abbrev pub is_at_print : Design → Code → Choice → Flat → Bool
is_at_print design code (Run p) f = is_some_print (action_there design.actions (frame_at code f.turns (point_in f.points p)))
is_at_print design code Update f = false
is_at_print design code Advance f = false

-- the step of a choice shows no line, and no monitor event runs after it
abbrev pub IsSilent : Design → Code → Choice → Flat → Type 0
IsSilent design code c f =
    let x = flat_transition_of design code c f in ShowsNoLine x.effect.shown × (x.monitors ≡ [])

-- a step of choice i, which is c, with what is held back from now on
abbrev pub held_view : Flat → ℕ → Choice → FlatTransition → FlatTransition
held_view f i c x = with_rest x.flat (with_held_after f.rest i c (rest_of x))

-- the value of the code of the operand that a frame evaluates first, where it has one
abbrev pub operand_of_frame : Code → Frame → List Vector → ℕ → Option Vector
operand_of_frame code (Executing place) values moment = operand_value code place values moment
operand_of_frame code (Repeating place n) values moment = None
operand_of_frame code (Writing place) values moment = None
