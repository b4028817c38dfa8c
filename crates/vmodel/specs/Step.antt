-- *trusted*: `Step` (IEEE 1364-2005, 11.3, 11.4, 11.6; docs/SCHEDULING.md): the one step of a choice, then the region moves.
use Rattle.std.specs.Prelude.{◌≡◌, ℕ, zero, suc, ◌-◌, List, [], ◌∷◌, ◌++◌, Option, Some, None, map, take, slice_get, slice_set, if◌then◌else◌}
use Rattle.std.specs.Option.{option_to_list}
use Rattle.vbits.specs.Vectors.{Vector}
use Rattle.basis.specs.Timescales.{factor}
use Rattle.vdesign.specs.Design.{Design}
use Rattle.vdesign.specs.declared.action.Action.{Action}
use Rattle.vdesign.specs.declared.action.Action.TheVariants.{Assign, Nonblocking, AssignDelayed, NonblockingDelayed, Trigger, Test, Case, While, Repeat, Forever, Delay, EventControl, Wait, ContinuousAssign, Print, DumpVars, Dump, NoOperation, Finish, Stop}
use Rattle.vdesign.specs.declared.dump.DumpSwitch.{DumpSwitch}
use Rattle.vdesign.specs.declared.dump.DumpSwitch.TheVariants as switch
use Rattle.vdesign.specs.declared.dump.DumpCommand.{DumpCommand}
use Rattle.vdesign.specs.declared.dump.DumpCommand.TheVariants as command
use Rattle.vdesign.specs.declared.print.When.{When}
use Rattle.vdesign.specs.declared.print.When.TheVariants.{Now, AtSlotEnd, AtChange}
use Rattle.vdesign.specs.declared.print.Piece.{Piece}
use Rattle.sched_core.specs.declared.end.Cause.{Cause}
use Rattle.sched_core.specs.declared.end.Cause.TheVariants.{Finish as Finished, Stop as Stopped}
use Rattle.vmodel.specs.declared.history.Item.{Item}
use Rattle.vmodel.specs.declared.history.Item.TheVariants.{SlotEnd, Dump as DumpItem, Line, Monitor}
use Rattle.vmodel.specs.declared.frame.Frame.{Frame}
use Rattle.vmodel.specs.declared.frame.Frame.TheVariants.{Executing, Repeating, Writing}
use Rattle.vmodel.specs.declared.effect.Disposition.{Disposition}
use Rattle.vmodel.specs.declared.effect.Disposition.TheVariants.{Runnable, Delayed, Waiting}
use Rattle.vmodel.specs.declared.effect.Post.{Post}
use Rattle.vmodel.specs.declared.effect.Shown.{Shown}
use Rattle.vmodel.specs.declared.effect.Shown.TheVariants.{Commands, Prints, Watches}
use Rattle.vmodel.specs.declared.part.Part.{Part}
use Rattle.vvalue.specs.Value.{Environment, written_time, holds, delay_of}
use Rattle.vvalue.specs.Cases.{places_of_case, turns_of}
use Rattle.line_text.specs.LineText.{pieces_text}
use Rattle.vmodel.specs.Value.{assigned_parts, held_value, resumed_parts}
use Rattle.vmodel.specs.Effects.{Effect, no_effect}
use Rattle.vmodel.specs.Parts.{with_parts}
use Rattle.vmodel.specs.Queue.{Later, Queue, with_process, without_process, slot_with_sleeper, slot_with_update, later}
use Rattle.vmodel.specs.State.{Process, State}
use Rattle.vmodel.specs.Waking.{wakes, awake, with_awake}
use Rattle.vmodel.specs.declared.choice.Choice.{Choice}
use Rattle.vmodel.specs.declared.choice.Choice.TheVariants.{Run, Update, Advance}
use Rattle.vmodel.specs.Choices.{choices}
use Rattle.vmodel.specs.Holding.{held_after}
use Rattle.vmodel.specs.Printed.{printed_after}

-- ---- what a step of a process does: an equation for each action of the table of steps (docs/SCHEDULING.md, "Steps"); an
-- update and an advance stand in `transition_of`

-- what it has left, and all else that it does
pub record StepResult : Type 0 where
  pub continuation : List Frame
  pub effect : Effect

-- an update that is posted for so much later
abbrev pub post_after : ℕ → List Part → Post
post_after delay parts = record { after = delay; parts = parts }

-- at these places in turn, then at what came after
abbrev pub frames : List ℕ → List Frame → List Frame
frames places after = map Executing places ++ after

-- a `repeat` at a place with so many turns left, before what stands after it; where none is left it has ended
abbrev pub turns_left : ℕ → ℕ → List Frame → List Frame
turns_left place zero after = after
turns_left place (suc n) after = Repeating place (suc n) ∷ after

-- what a print action at a place shows: `$display` prints at once (17.1.1), `$strobe` makes a monitor event (17.1.2), and `$monitor`
-- is in force from now on (17.1.3)
abbrev pub print_effect : When → ℕ → Effect
print_effect Now place = record no_effect { shown = Some (Prints place) }
print_effect AtSlotEnd place = record no_effect { strobed = Some place }
print_effect AtChange place = record no_effect { shown = Some (Watches place) }

-- the command that a dump task gives, but for $dumpvars (18.1.3, 18.1.4)
abbrev pub command_of : DumpSwitch → DumpCommand
command_of switch.Off = command.Off
command_of switch.On = command.On
command_of switch.All = command.All

-- what an action at a place does at a moment, of a process that has `after` left to do then
abbrev pub execute : ℕ → Action → List Frame → Environment → StepResult
-- 9.2.1: `targets = value` writes
execute place (Assign targets value) after now = record { continuation = after; effect = record no_effect { wrote = assigned_parts now targets value } }
-- 9.2.2, 11.6.4: `targets <= value` takes value and targets, and posts the update
execute place (Nonblocking targets value) after now = record { continuation = after; effect = record no_effect { posted = Some (post_after 0 (assigned_parts now targets value)) } }
-- 9.7.7, 11.6.3: `targets = #amount value` takes value and delay, and sleeps until it writes
execute place (AssignDelayed amount targets value) after now =
    record { continuation = Writing place ∷ after; effect = record no_effect { held = Some (held_value now targets value); disposition = Delayed (delay_of now amount) } }
-- 9.2.2, 9.7.7, 11.6.4: `targets <= #amount value` takes value, targets and delay, and posts the update for then
execute place (NonblockingDelayed amount targets value) after now =
    record { continuation = after; effect = record no_effect { posted = Some (post_after (delay_of now amount) (assigned_parts now targets value)) } }
-- 9.7.3: `-> event` wakes what waits for the event; where nothing does, it is lost
execute place (Trigger event) after now = record { continuation = after; effect = record no_effect { triggered = Some event } }
-- 9.4: `if (condition) .. else ..`
execute place (Test condition when_true otherwise) after now =
    record { continuation = frames (if holds now condition then when_true else otherwise) after; effect = no_effect }
-- 9.5: `case (value) ..`
execute place (Case kind value branches otherwise) after now =
    record { continuation = frames (places_of_case now kind value branches otherwise) after; effect = no_effect }
-- 9.6: `while (condition) ..` tests once more after its body
execute place (While condition body) after now =
    record { continuation = if holds now condition then frames body (Executing place ∷ after) else after; effect = no_effect }
-- 9.6: `repeat (count) ..` takes its count
execute place (Repeat count body) after now = record { continuation = turns_left place (turns_of now count) after; effect = no_effect }
-- 9.6: `forever ..` comes again after its body
execute place (Forever body) after now = record { continuation = frames body (Executing place ∷ after); effect = no_effect }
-- 9.7.1: `#amount` suspends, and the body comes after it
execute place (Delay amount body) after now = record { continuation = frames body after; effect = record no_effect { disposition = Delayed (delay_of now amount) } }
-- 9.7.2: `@(terms)` waits, and the body comes after it
execute place (EventControl terms body) after now = record { continuation = frames body after; effect = record no_effect { disposition = Waiting place } }
-- 9.7.6: `wait (condition)` goes on to its body, or waits and then tests once more; a condition that held only until then isn't seen (own)
execute place (Wait condition terms body) after now =
    if holds now condition then record { continuation = frames body after; effect = no_effect }
    else record { continuation = Executing place ∷ after; effect = record no_effect { disposition = Waiting place } }
-- 6.1, 11.6.1: `assign targets = value` writes, waits for a change, and writes again, each in one step (own)
execute place (ContinuousAssign targets value terms) after now =
    record { continuation = Executing place ∷ after; effect = record no_effect { wrote = assigned_parts now targets value; disposition = Waiting place } }
-- 17.1: `$display(..)`, `$strobe(..)`, `$monitor(..)`
execute place (Print when pieces) after now = record { continuation = after; effect = print_effect when place }
-- 18.1: `$dumpvars(..)`, whose selection stands at its place, and its kin
execute place (DumpVars selection) after now = record { continuation = after; effect = record no_effect { shown = Some (Commands (command.Vars place)) } }
execute place (Dump asked) after now = record { continuation = after; effect = record no_effect { shown = Some (Commands (command_of asked)) } }
-- 18.1.1, 18.1.6: `$dumpfile` and `$dumpflush` do nothing more
execute place NoOperation after now = record { continuation = after; effect = no_effect }
-- 17.4.1: `$finish`
execute place Finish after now = record { continuation = after; effect = record no_effect { cause = Some Finished } }
-- 17.4.2: `$stop`, which ends the run, as nobody is there to go on (own)
execute place Stop after now = record { continuation = after; effect = record no_effect { cause = Some Stopped } }

-- 9.6: what the start of a turn of the action at a place does, where so many turns are left: the body comes, and then the turns
-- that are left after this one. No other action than `repeat` has turns
abbrev pub execute_turn : ℕ → ℕ → Action → List Frame → StepResult
execute_turn place n (Repeat count body) after = record { continuation = frames body (turns_left place (n - 1) after); effect = no_effect }
execute_turn place n _ after = record { continuation = Repeating place n ∷ after; effect = no_effect }

-- 9.7.7, 11.6.3: what the second step of the suspended assignment at a place does, with the value that its process holds: the targets are
-- found now, and written. No other action than `targets = #amount value` has such a step
abbrev pub resume : ℕ → Action → List Frame → Option Vector → Environment → StepResult
resume place (AssignDelayed amount targets value) after held now = record { continuation = after; effect = record no_effect { wrote = resumed_parts now targets held } }
resume place _ after held now = record { continuation = Writing place ∷ after; effect = no_effect }

-- what the first of what is left does by the action at its place, with the value that the process holds
abbrev pub execute_at : Frame → Action → List Frame → Option Vector → Environment → StepResult
execute_at (Executing place) action after held now = execute place action after now
execute_at (Repeating place n) action after held now = execute_turn place n action after
execute_at (Writing place) action after held now = resume place action after held now

abbrev pub place_of : Frame → ℕ
place_of (Executing place) = place
place_of (Repeating place n) = place
place_of (Writing place) = place

-- ---- what becomes of the process in the queue

-- it isn't active any more
abbrev pub deactivate : ℕ → Queue → Queue
deactivate p q = record q { last = None; active = without_process p q.active }

-- the process, where it has something left
abbrev pub process_to_continue : ℕ → List Frame → Option ℕ
process_to_continue p [] = None
process_to_continue p (frame ∷ rest) = Some p

-- it goes on as the process that made the last step, or has ended, where nothing is left
abbrev pub with_next_step : ℕ → Option ℕ → Queue → Queue
with_next_step p None q = deactivate p q
with_next_step p (Some same) q = record q { last = Some same }

abbrev pub becomes_inactive : Option ℕ → Queue → Queue
becomes_inactive None q = q
becomes_inactive (Some p) q = record q { inactive = with_process p q.inactive }

-- 11.3, 9.7.1: it sleeps, inactive after a delay of 0 and else in the future; where nothing is left it has ended, and
-- its delay still stands as a future time
abbrev pub with_delay : ℕ → Option ℕ → Queue → Queue
with_delay zero sleeper q = becomes_inactive sleeper q
with_delay (suc d) sleeper q = later (suc d) (slot_with_sleeper sleeper) q

abbrev pub reschedule : ℕ → Disposition → Option ℕ → Queue → Queue
reschedule p Runnable goes q = with_next_step p goes q
reschedule p (Delayed d) goes q = deactivate p (with_delay d goes q)
reschedule p (Waiting place) goes q = deactivate p q

-- 11.4: an update stands after those posted before for its time, which is the current time, or later after a delay
abbrev pub posts_after : ℕ → List Part → Queue → Queue
posts_after zero parts q = record q { posted = q.posted ++ parts ∷ [] }
posts_after (suc d) parts q = later (suc d) (slot_with_update parts) q

abbrev pub posts : Option Post → Queue → Queue
posts None q = q
posts (Some post) q = posts_after post.after post.parts q

-- 11.3, 17.1.2: a monitor event stands after those created before (own: 11.4 leaves their order open)
abbrev pub with_strobe : Option ℕ → Queue → Queue
with_strobe strobed q = record q { strobes = q.strobes ++ option_to_list strobed }

-- ---- the region moves (11.4)

-- while something is active it stays; else what is inactive becomes active; else what is posted is activated; else the monitor
-- events have run, and the slot has ended
abbrev pub activate_next_region : List ℕ → List (List Part) → List ℕ → List (List Part) → Queue → Queue
activate_next_region (p ∷ ps) us is posts q = q
activate_next_region [] (u ∷ us) is posts q = q
activate_next_region [] [] (i ∷ is) posts q = record q { active = i ∷ is; inactive = [] }
activate_next_region [] [] [] (u ∷ us) q = record q { activated = u ∷ us; posted = [] }
activate_next_region [] [] [] [] q = record q { strobes = [] }

abbrev pub with_queue_moves : Queue → Queue
with_queue_moves q = activate_next_region q.active q.activated q.inactive q.posted q

-- 17.1.2: the monitor events that run in these moves, in order of creation (own)
abbrev pub run_monitors : List ℕ → List (List Part) → List ℕ → List (List Part) → List ℕ → List ℕ
run_monitors (p ∷ ps) us is posts strobes = []
run_monitors [] (u ∷ us) is posts strobes = []
run_monitors [] [] (i ∷ is) posts strobes = []
run_monitors [] [] [] (u ∷ us) strobes = []
run_monitors [] [] [] [] strobes = strobes

abbrev pub monitors_in : Queue → List ℕ
monitors_in q = run_monitors q.active q.activated q.inactive q.posted q.strobes

-- after `$finish` and `$stop` there are none
abbrev pub with_moves_by : Option Cause → State → State
with_moves_by (Some cause) s = s
with_moves_by None s = record s { queue = with_queue_moves s.queue }

abbrev pub with_moves : State → State
with_moves s = with_moves_by s.cause s

abbrev pub monitors_by : Option Cause → State → List ℕ
monitors_by (Some cause) s = []
monitors_by None s = monitors_in s.queue

-- the monitor events that run in the region moves
abbrev pub monitors_of : State → List ℕ
monitors_of s = monitors_by s.cause s

-- ---- the step

-- the state after a step, what the step did, and the monitor events that ran where it ended the slot, in order of creation
pub record Transition : Type 0 where
  pub state : State
  pub effect : Effect
  pub monitors : List ℕ

-- the region moves end the step
abbrev pub complete : Effect → State → Transition
complete effect s = record { state = with_moves s; effect = effect; monitors = monitors_of s }

-- the place at which it waits from now on; where nothing is left it has ended
abbrev pub waits_by : Disposition → List Frame → Option ℕ
waits_by Runnable continuation = None
waits_by (Delayed d) continuation = None
waits_by (Waiting place) [] = None
waits_by (Waiting place) (frame ∷ rest) = Some place

-- a process after its step
abbrev pub process_by : StepResult → Process
process_by step = record { continuation = step.continuation; held = step.effect.held; waits = waits_by step.effect.disposition step.continuation }

-- the process is placed, the parts are written, and the queue has what becomes of both
abbrev pub with_step : ℕ → StepResult → State → State
with_step p step s = record s {
  values = with_parts step.effect.wrote s.values;
  processes = slice_set s.processes p (process_by step);
  queue = reschedule p step.effect.disposition (process_to_continue p step.continuation) (posts step.effect.posted (with_strobe step.effect.strobed s.queue));
  cause = step.effect.cause;
}

-- 9.7.2, 9.7.3: processes that wait for a change between these values and those before go on, in the same step, and so do those that wait
-- for the event that the step triggers
abbrev pub with_woken : Design → List Vector → Option ℕ → State → State
with_woken design before triggered s =
    let comes = wakes design.actions before s.values triggered in
    record s {
      processes = map (awake comes) s.processes;
      queue = record s.queue { active = with_awake comes 0 s.processes s.queue.active };
    }

abbrev pub transition_with : Design → ℕ → StepResult → State → Transition
transition_with design p step s = complete step.effect (with_woken design s.values step.effect.triggered (with_step p step s))

-- nothing happens
abbrev pub no_transition : State → Transition
no_transition s = record { state = s; effect = no_effect; monitors = [] }

-- what is known at a time, with these values
abbrev pub environment_at : Design → List Vector → ℕ → Environment
environment_at design values time =
    let units = factor design.scale in
    record { values = values; variables = design.variables; time = written_time time units; factor = units }

-- what is known in a state
abbrev pub environment_of : Design → State → Environment
environment_of design s = environment_at design s.values s.queue.time

abbrev pub continuation_of : Option Process → List Frame
continuation_of None = []
continuation_of (Some process) = process.continuation

abbrev pub held_of : Option Process → Option Vector
held_of None = None
held_of (Some process) = process.held

-- the process takes the action, if there is one
abbrev pub action_transition : Design → ℕ → Frame → Option Action → List Frame → State → Transition
action_transition design p frame None after s = no_transition s
action_transition design p frame (Some action) after s =
    transition_with design p (execute_at frame action after (held_of (slice_get s.processes p)) (environment_of design s)) s

-- it takes the action at the first of what it has left. One with nothing left is never active (specs/Kept.antt)
abbrev pub continuation_transition : Design → ℕ → List Frame → State → Transition
continuation_transition design p [] s = no_transition s
continuation_transition design p (frame ∷ after) s = action_transition design p frame (slice_get design.actions (place_of frame)) after s

abbrev pub process_transition : Design → ℕ → State → Transition
process_transition design p s = continuation_transition design p (continuation_of (slice_get s.processes p)) s

-- the first activated update is written (11.4.1)
abbrev pub first_of : List (List Part) → List Part
first_of [] = []
first_of (u ∷ us) = u

abbrev pub without_update : List (List Part) → Queue → Queue
without_update [] q = q
without_update (u ∷ us) q = record q { last = None; activated = us }

abbrev pub with_update : State → State
with_update s = record s {
  values = with_parts (first_of s.queue.activated) s.values;
  queue = without_update s.queue.activated s.queue;
}

-- the time goes on to the next future time, whose processes become active and whose updates are posted in their order
abbrev pub with_advance : List (ℕ × Later) → Queue → Queue
with_advance [] q = q
with_advance (e ∷ es) q =
    record q { time = e.0; last = None; active = e.1.processes; posted = e.1.updates; future = es }

abbrev pub transition_of : Design → Choice → State → Transition
transition_of design (Run p) s = process_transition design p s
transition_of design Update s = complete (record no_effect { wrote = first_of s.queue.activated }) (with_woken design s.values None (with_update s))
transition_of design Advance s = complete no_effect (record s { queue = with_advance s.queue.future s.queue })

-- ---- what a step gives to the history

-- what the action of a print task shows; no place of another action is asked for
abbrev pub pieces_of : Option Action → List Piece
pieces_of (Some (Print when pieces)) = pieces
pieces_of _ = []

abbrev pub pieces_at : Design → ℕ → List Piece
pieces_at design place = pieces_of (slice_get design.actions place)

-- 17.1: the line of the print task at a place, as it is printed in a state
abbrev pub line_item : Design → State → ℕ → Item
line_item design s place = Line (pieces_text (environment_of design s) (pieces_at design place))

abbrev pub shown_items : Design → State → Option Shown → List Item
shown_items design s None = []
shown_items design s (Some (Commands command)) = DumpItem command ∷ []
shown_items design s (Some (Prints place)) = line_item design s place ∷ []
shown_items design s (Some (Watches place)) = Monitor place ∷ []

-- where nothing is left at the current time the slot has ended
abbrev pub idle_items : List ℕ → List (List Part) → ℕ → List Vector → List Item
idle_items [] [] time values = SlotEnd time values ∷ []
idle_items [] (u ∷ us) time values = []
idle_items (p ∷ ps) us time values = []

-- a slot that `$finish` or `$stop` cuts short has no end
abbrev pub slot_end_by : Option Cause → State → List Item
slot_end_by (Some cause) s = []
slot_end_by None s = idle_items s.queue.active s.queue.activated s.queue.time s.values

abbrev pub slot_end_of : State → List Item
slot_end_of s = slot_end_by s.cause s

-- 11.4: the lines of the monitor events, in order of creation (own)
abbrev pub strobe_items : Design → State → List ℕ → List Item
strobe_items design s [] = []
strobe_items design s (place ∷ places) = line_item design s place ∷ strobe_items design s places

-- before a slot end, where there is one
abbrev pub before_end : List Item → List Item → List Item
before_end strobes [] = []
before_end strobes (end ∷ rest) = strobes ++ end ∷ rest

-- what the state after a step adds, where it is a slot end: these monitor events ran, and the slot has ended (11.4, 17.1.2)
abbrev pub end_items : Design → State → List ℕ → List Item
end_items design s monitors = before_end (strobe_items design s monitors) (slot_end_of s)

-- what the step showed at once, and the slot end where the state after it is one; a print task changes no value
abbrev pub items_of : Design → Transition → List Item
items_of design transition = shown_items design transition.state transition.effect.shown ++ end_items design transition.state transition.monitors

-- ---- the step of a choice, with what is held back and the lines of the slot

-- with what is held back from now on
abbrev pub with_held_after : State → ℕ → Choice → Transition → Transition
with_held_after s i c transition = record transition {
  state = record transition.state { held_back = held_after s.held_back s.queue i c transition.state.queue };
}

-- with the lines of the slot
abbrev pub with_lines_after : Design → State → Choice → Transition → Transition
with_lines_after design s c transition = record transition {
  state = record transition.state { printed = printed_after c (items_of design transition) s.printed };
}

-- a step of choice i, which is c, with both
abbrev pub with_views : Design → State → ℕ → Choice → Transition → Transition
with_views design s i c transition = with_lines_after design s c (with_held_after s i c transition)

abbrev pub transition_by : Design → State → ℕ → Option Choice → Transition
transition_by design s i None = no_transition s
transition_by design s i (Some c) = with_views design s i c (transition_of design c s)

-- the step of choice i
abbrev pub next : Design → State → ℕ → Transition
next design s i = transition_by design s i (slice_get (choices s) i)

-- ---- lists of items

-- what stood before still stands, and behind it are the first, if any, of those that were to come
abbrev pub HasFront : List Item → List Item → List Item → Type 0
HasFront old coming new = (n : ℕ) × (new ≡ old ++ take n coming)
