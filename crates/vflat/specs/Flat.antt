-- *internal*: States kept flat: where each process stands in the code of the design, in place of all that it has left (IEEE 1364-2005,
-- clauses 9 and 11). What a step of the code does with any of them, and when one stands for a state of a run.
use Rattle.std.specs.Prelude.{◌≡◌, ◌≢◌, ℕ, suc, Bool, ◌&&◌, if◌then◌else◌, is_some, List, [], ◌∷◌, ◌++◌, map, length, replicate, slice_get, slice_set, unwrap_or, option_map, Option, Some, None}
use Rattle.std.specs.List.{Contains}
use Rattle.vbits.specs.Vectors.{Vector}
use Rattle.vcode.specs.declared.point.Point.{Point}
use Rattle.vcode.specs.declared.point.Point.TheVariants as point
use Rattle.vcode.specs.declared.listener.Listener.{Listener}
use Rattle.vcode.specs.Points.{is_same_point, place_of_point}
use Rattle.vcode.specs.Code.{Code, counter_at, turns_by, turns_at, settle, behind}
use Rattle.vdesign.specs.Design.{Design}
use Rattle.vdesign.specs.declared.action.Edge.{Edge}
use Rattle.vdesign.specs.declared.action.Edge.TheVariants.{Any}
use Rattle.vdesign.specs.declared.action.Term.{Term}
use Rattle.vdesign.specs.declared.action.Term.TheVariants.{Change, Event}
use Rattle.vdesign.specs.declared.action.Action.{Action}
use Rattle.vvalue.specs.Value.{Environment}
use Rattle.vmodel.specs.declared.choice.Choice.{Choice}
use Rattle.vmodel.specs.declared.choice.Choice.TheVariants.{Run, Update, Advance}
use Rattle.vmodel.specs.declared.effect.Disposition.{Disposition}
use Rattle.vmodel.specs.declared.effect.Disposition.TheVariants.{Runnable, Delayed, Waiting}
use Rattle.vmodel.specs.Effects.{Effect, no_effect}
use Rattle.vmodel.specs.declared.part.Part.{Part}
use Rattle.vmodel.specs.declared.frame.Frame.{Frame}
use Rattle.vmodel.specs.declared.frame.Frame.TheVariants.{Executing, Repeating, Writing}
use Rattle.vmodel.specs.Choices.{choices}
use Rattle.vmodel.specs.Inner.{variable_of}
use Rattle.vmodel.specs.InnerWaking.{with_active}
use Rattle.vmodel.specs.Kept.{waits_of}
use Rattle.vmodel.specs.Parts.{with_parts}
use Rattle.vmodel.specs.Queue.{with_process}
use Rattle.vmodel.specs.State.{Process, State, without_processes}
use Rattle.vmodel.specs.Step.{StepResult, Transition, place_of, execute_at, posts, with_strobe, reschedule, complete, no_transition, environment_of, continuation_of, first_of, with_update, transition_of, with_views}
use Rattle.vmodel.specs.Waking.{hears}
use Rattle.vcompile.specs.Links.{place_number}
use Rattle.vcompile.specs.CodeOf.{code_of}
use Rattle.vcompile.specs.Laws.{first_of as first_point_of, heard_of, with_edge, turns_behind, AreLed, TakesStep}

pub record Flat : Type 0 where
  pub points : List Point  -- by process, where it stands
  pub turns : List ℕ  -- by counter, how many turns are left (9.6)
  pub held : List (Option Vector)  -- by process, the value that a suspended assignment holds (9.7.7)
  pub rest : State  -- all else; it has no processes of its own

-- the point of a process; one that isn't there has ended
abbrev pub point_in : List Point → ℕ → Point
point_in points process = unwrap_or (slice_get points process) point.Ended

abbrev pub held_by : List (Option Vector) → ℕ → Option Vector
held_by held process = unwrap_or (slice_get held process) None

-- ---- 9.7.2, 9.7.3: waking by the lists of listeners

-- where the processes stand, and which are active
pub record Woken : Type 0 where
  pub points : List Point
  pub active : List ℕ

-- whether a listener wakes: it hears, and its process waits at its place
abbrev pub wakes_listener : Bool → Listener → List Point → Bool
wakes_listener heard l points = heard && is_same_point (point_in points l.process) (point.Waiting l.place)

-- its process goes on where the listener says, and is active
abbrev pub with_resumed : Code → List ℕ → Listener → Woken → Woken
with_resumed code turns l w = record {
  points = slice_set w.points l.process (settle code turns l.resumes);
  active = with_process l.process w.active;
}

abbrev pub with_listener : Code → List ℕ → Bool → Listener → Woken → Woken
with_listener code turns heard l w = if wakes_listener heard l w.points then with_resumed code turns l w else w

-- each of a list in turn, by which edges are heard
abbrev pub with_listeners : Code → List ℕ → (Edge → Bool) → List Listener → Woken → Woken
with_listeners code turns heard [] w = w
with_listeners code turns heard (l ∷ ls) w = with_listeners code turns heard ls (with_listener code turns (heard l.edge) l w)

-- those who listen to what a term is of, where the step changes values so and triggers the event
abbrev pub with_term : Code → List ℕ → List Vector → List Vector → Option ℕ → Term → Woken → Woken
with_term code turns before after triggered term w =
    with_listeners code turns (λ edge. hears before after triggered (with_edge term edge)) (heard_of code term) w

abbrev pub with_terms : Code → List ℕ → List Vector → List Vector → Option ℕ → List Term → Woken → Woken
with_terms code turns before after triggered [] w = w
with_terms code turns before after triggered (term ∷ terms) w =
    with_terms code turns before after triggered terms (with_term code turns before after triggered term w)

abbrev pub told_of_event : Option ℕ → List Term
told_of_event None = []
told_of_event (Some event) = Event event ∷ []

-- what a step tells: of each variable that it writes, and of the event that it triggers
abbrev pub terms_told : List Part → Option ℕ → List Term
terms_told wrote triggered = map (λ part. Change Any (variable_of part)) wrote ++ told_of_event triggered

-- those who wait for it wake
abbrev pub flat_woken : Code → List Vector → List Part → Option ℕ → Flat → Flat
flat_woken code before wrote triggered f =
    let w = with_terms code f.turns before f.rest.values triggered (terms_told wrote triggered)
    (record { points = f.points; active = f.rest.queue.active }) in
    record f { points = w.points; rest = record f.rest { queue = with_active w.active f.rest.queue } }

-- ---- a step of a process

-- what a process executes that stands at a point; one that waits executes nothing
abbrev pub frame_at : Code → List ℕ → Point → Option Frame
frame_at code turns point.Ended = None
frame_at code turns (point.Executing place) = Some (Executing place)
frame_at code turns (point.Repeating place) = Some (Repeating place (turns_at code turns place))
frame_at code turns (point.Writing place) = Some (Writing place)
frame_at code turns (point.Waiting place) = None

-- the point of a frame, by the number of its place
abbrev pub point_of_frame : Frame → Point
point_of_frame (Executing place) = point.Executing (place_number place)
point_of_frame (Repeating place n) = point.Repeating (place_number place)
point_of_frame (Writing place) = point.Writing (place_number place)

-- where a process comes by a step at a place: to the first that the step puts before what was left, else behind the place
abbrev pub comes_to : Code → List ℕ → ℕ → List Frame → Point
comes_to code turns place [] = behind code turns place
comes_to code turns place (frame ∷ more) = point_of_frame frame

-- the process, where it has something left
abbrev pub goes_from : ℕ → Point → Option ℕ
goes_from p to = option_map (λ place. p) (place_of_point to)

-- where it stands then: it waits at a place, where the step suspends it so and something is left
abbrev pub stands_by : Disposition → Point → Point
stands_by Runnable to = to
stands_by (Delayed d) to = to
stands_by (Waiting place) to = if is_some (place_of_point to) then point.Waiting (place_number place) else to

-- all but the processes after a step of one that goes on so
abbrev pub rest_with_step : ℕ → Effect → Option ℕ → State → State
rest_with_step p effect goes s = record s {
  values = with_parts effect.wrote s.values;
  queue = reschedule p effect.disposition goes (posts effect.posted (with_strobe effect.strobed s.queue));
  cause = effect.cause;
}

-- the process is placed that comes to a point, with these turns left
abbrev pub flat_placed : ℕ → Effect → List ℕ → Point → Flat → Flat
flat_placed p effect turns to f = record {
  points = slice_set f.points p (stands_by effect.disposition to);
  turns = turns;
  held = slice_set f.held p effect.held;
  rest = rest_with_step p effect (goes_from p to) f.rest;
}

-- what its action does, before what it has left
abbrev pub step_alone : Design → ℕ → Frame → Action → Flat → StepResult
step_alone design p frame action f = execute_at frame action [] (held_by f.held p) (environment_of design f.rest)

abbrev pub flat_after : Design → Code → ℕ → Frame → Action → Flat → Flat
flat_after design code p frame action f =
    let step = step_alone design p frame action f in
    let turns = turns_behind code frame action (environment_of design f.rest) f.turns in
    flat_woken code f.rest.values step.effect.wrote step.effect.triggered
    (flat_placed p step.effect turns (comes_to code turns (place_of frame) step.continuation) f)

-- ---- the step of a choice

-- the flat state after a step, what the step did, and the monitor events that ran
pub record FlatTransition : Type 0 where
  pub flat : Flat
  pub effect : Effect
  pub monitors : List ℕ

-- what of it is of no process
abbrev pub rest_of : FlatTransition → Transition
rest_of x = record { state = x.flat.rest; effect = x.effect; monitors = x.monitors }

-- the same with this in its place
abbrev pub with_rest : Flat → Transition → FlatTransition
with_rest f x = record { flat = record f { rest = x.state }; effect = x.effect; monitors = x.monitors }

abbrev pub flat_action : Design → Code → ℕ → Frame → Option Action → Flat → FlatTransition
flat_action design code p frame None f = with_rest f (no_transition f.rest)
flat_action design code p frame (Some action) f =
    let after = flat_after design code p frame action f in
    with_rest after (complete (step_alone design p frame action f).effect after.rest)

abbrev pub flat_frame : Design → Code → ℕ → Option Frame → Flat → FlatTransition
flat_frame design code p None f = with_rest f (no_transition f.rest)
flat_frame design code p (Some frame) f = flat_action design code p frame (slice_get design.actions (place_of frame)) f

-- the first activated update is written, and wakes
abbrev pub flat_updated : Code → Flat → Flat
flat_updated code f = flat_woken code f.rest.values (first_of f.rest.queue.activated) None (record f { rest = with_update f.rest })

abbrev pub flat_transition_of : Design → Code → Choice → Flat → FlatTransition
flat_transition_of design code (Run p) f = flat_frame design code p (frame_at code f.turns (point_in f.points p)) f
flat_transition_of design code Update f =
    let after = flat_updated code f in
    with_rest after (complete (record no_effect { wrote = first_of f.rest.queue.activated }) after.rest)
flat_transition_of design code Advance f = with_rest f (transition_of design Advance f.rest)

-- with what is held back and the lines of the slot
abbrev pub flat_viewed : Design → Flat → ℕ → Choice → FlatTransition → FlatTransition
flat_viewed design f i c x = with_rest x.flat (with_views design f.rest i c (rest_of x))

abbrev pub flat_by : Design → Code → Flat → ℕ → Option Choice → FlatTransition
flat_by design code f i None = with_rest f (no_transition f.rest)
flat_by design code f i (Some c) = flat_viewed design f i c (flat_transition_of design code c f)

-- the step of choice i
abbrev pub flat_next : Design → Code → Flat → ℕ → FlatTransition
flat_next design code f i = flat_by design code f i (slice_get (choices f.rest) i)

-- ---- when a flat state stands for a state of a run

abbrev pub waits_in : List Process → ℕ → Option ℕ
waits_in processes i = waits_of (slice_get processes i)

abbrev pub left_in : List Process → ℕ → List Frame
left_in processes i = continuation_of (slice_get processes i)

-- where a process stands that waits at a place, or has so much left
abbrev pub stand_of : Option ℕ → List Frame → Point
stand_of None continuation = first_point_of continuation
stand_of (Some place) continuation = point.Waiting place

-- a process was suspended at a place by a step, behind which it has so much left
pub record IsSuspended (design : Design) (turns : List ℕ) (i place : ℕ) (continuation : List Frame) : Type 0 where
  pub frame : Frame
  pub after : List Frame
  pub action : Action
  pub held : Option Vector
  pub now : Environment
  pub step : TakesStep design turns i frame after action
  pub waits : (execute_at frame action after held now).effect.disposition ≡ Waiting place
  pub left : (execute_at frame action after held now).continuation ≡ continuation

-- the links lead along what a process has left, or along what it had left where it was suspended
abbrev pub StandsAlong : Design → List ℕ → ℕ → Option ℕ → List Frame → Type 0
StandsAlong design turns i None continuation = AreLed (code_of design) i turns continuation
StandsAlong design turns i (Some place) continuation = IsSuspended design turns i place continuation

-- the points are those of the processes
pub record StandsFor (design : Design) (turns : List ℕ) (processes : List Process) (points : List Point) : Type 0 where
  pub many : length points ≡ length processes
  pub at : (i : ℕ) → point_in points i ≡ stand_of (waits_in processes i) (left_in processes i)
  pub along : (i : ℕ) → StandsAlong design turns i (waits_in processes i) (left_in processes i)

-- turns that a counter says are left are those of a `repeat` that a process has left
pub record IsCounterOf (code : Code) (processes : List Process) (counter : ℕ) : Type 0 where
  pub process : ℕ
  pub place : ℕ
  pub n : ℕ
  pub there : Contains (left_in processes process) (Repeating place n)
  pub counter_is : counter_at code place ≡ Some counter

abbrev pub AreCounted : Code → List ℕ → List Process → Type 0
AreCounted code turns processes = (counter : ℕ) → turns_by turns (Some counter) ≢ 0 → IsCounterOf code processes counter

-- how many counters there are
abbrev pub counter_count : List (Option ℕ) → ℕ
counter_count [] = 0
counter_count (None ∷ more) = counter_count more
counter_count (Some counter ∷ more) = suc (counter_count more)

-- a flat state stands for a state of a run
pub record Matches (design : Design) (f : Flat) (t : State) : Type 0 where
  pub rest : f.rest ≡ without_processes t
  pub held : f.held ≡ map (λ (process : Process). process.held) t.processes
  pub stands : StandsFor design f.turns t.processes f.points
  pub count : length f.turns ≡ counter_count (code_of design).counters
  pub counted : AreCounted (code_of design) f.turns t.processes

-- the flat state of a state in which every process begins: no turn is left, and nothing is held
abbrev pub flat_with : Code → State → Flat
flat_with code rest = record {
  points = code.begins;
  turns = replicate (counter_count code.counters) 0;
  held = replicate (length code.begins) None;
  rest = rest;
}

abbrev pub flat_opening : Code → State → Flat
flat_opening code t = flat_with code (without_processes t)
