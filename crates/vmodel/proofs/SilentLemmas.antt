-- Steps that print nothing: of no print task, where no monitor event waits. What the slot has printed stays.
use Rattle.std.proofs.Common.{◌≡◌, ℕ, Bool, true, false, List, [], ◌∷◌, ◌++◌, Option, Some, None, refl, ap, ◌∙◌}
use Rattle.std.specs.Prelude.{option_map}
use Rattle.vbits.specs.Vectors.{Vector}
use Rattle.vdesign.specs.Design.{Design}
use Rattle.vdesign.specs.declared.action.Action.{Action}
use Rattle.vdesign.specs.declared.action.Action.TheVariants.{Assign, Nonblocking, AssignDelayed, NonblockingDelayed, Trigger, Test, Case, While, Repeat, Forever, Delay, EventControl, Wait, ContinuousAssign, Print, DumpVars, Dump, NoOperation, Finish, Stop}
use Rattle.sched_core.specs.declared.end.Cause.{Cause}
use Rattle.vvalue.specs.Value.{Environment, holds}
use Rattle.vmodel.specs.declared.choice.Choice.{Choice}
use Rattle.vmodel.specs.declared.effect.Disposition.{Disposition}
use Rattle.vmodel.specs.declared.effect.Disposition.TheVariants.{Runnable, Delayed, Waiting}
use Rattle.vmodel.specs.Effects.{Effect}
use Rattle.vmodel.specs.declared.effect.Post.{Post}
use Rattle.vmodel.specs.declared.effect.Shown.{Shown}
use Rattle.vmodel.specs.declared.effect.Shown.TheVariants.{Commands, Prints, Watches}
use Rattle.vmodel.specs.declared.part.Part.{Part}
use Rattle.vmodel.specs.declared.frame.Frame.{Frame}
use Rattle.vmodel.specs.declared.frame.Frame.TheVariants.{Executing, Repeating, Writing}
use Rattle.vmodel.specs.Queue.{Later, Queue}
use Rattle.vmodel.specs.State.{State}
use Rattle.vmodel.specs.InnerStep.{wait_result}
use Rattle.vmodel.specs.InnerSilent.{is_print, ShowsNoLine}
use Rattle.vmodel.specs.Printed.{with_lines, lines_before, printed_after}
use Rattle.vmodel.proofs.MovedLemmas.{posts_by, sleeps_by}
use Rattle.vmodel.specs.Step.{Transition, execute, execute_turn, resume, execute_at, reschedule, posts, run_monitors, monitors_by, monitors_of, without_update, with_advance, shown_items, idle_items, slot_end_by, slot_end_of, strobe_items, before_end, items_of}

-- ---- what an action shows

pub record ShowsNothing (effect : Effect) : Type 0 where
  pub shown : ShowsNoLine effect.shown
  pub strobed : effect.strobed ≡ None

wait_result-silent : (place : ℕ) (test : Bool) (body : List ℕ) (after : List Frame) → ShowsNothing (wait_result place test body after).effect
wait_result-silent place true body after = record { shown = tt; strobed = refl }
wait_result-silent place false body after = record { shown = tt; strobed = refl }

execute-silent : (place : ℕ) (action : Action) (after : List Frame) (now : Environment) → is_print action ≡ false → ShowsNothing (execute place action after now).effect
execute-silent place (Print when pieces) after now h = let no : true ≡ false = h in cc
execute-silent place (Wait condition terms body) after now h = wait_result-silent place (holds now condition) body after
execute-silent place (Assign targets value) after now h = record { shown = tt; strobed = refl }
execute-silent place (Nonblocking targets value) after now h = record { shown = tt; strobed = refl }
execute-silent place (AssignDelayed amount targets value) after now h = record { shown = tt; strobed = refl }
execute-silent place (NonblockingDelayed amount targets value) after now h = record { shown = tt; strobed = refl }
execute-silent place (Trigger event) after now h = record { shown = tt; strobed = refl }
execute-silent place (Test condition when_true otherwise) after now h = record { shown = tt; strobed = refl }
execute-silent place (Case kind value branches otherwise) after now h = record { shown = tt; strobed = refl }
execute-silent place (While condition body) after now h = record { shown = tt; strobed = refl }
execute-silent place (Repeat count body) after now h = record { shown = tt; strobed = refl }
execute-silent place (Forever body) after now h = record { shown = tt; strobed = refl }
execute-silent place (Delay amount body) after now h = record { shown = tt; strobed = refl }
execute-silent place (EventControl terms body) after now h = record { shown = tt; strobed = refl }
execute-silent place (ContinuousAssign targets value terms) after now h = record { shown = tt; strobed = refl }
execute-silent place (DumpVars selection) after now h = record { shown = tt; strobed = refl }
execute-silent place (Dump switch) after now h = record { shown = tt; strobed = refl }
execute-silent place NoOperation after now h = record { shown = tt; strobed = refl }
execute-silent place Finish after now h = record { shown = tt; strobed = refl }
execute-silent place Stop after now h = record { shown = tt; strobed = refl }

execute_turn-silent : (place n : ℕ) (action : Action) (after : List Frame) → ShowsNothing (execute_turn place n action after).effect
execute_turn-silent place n (Repeat count body) after = record { shown = tt; strobed = refl }
execute_turn-silent place n _ after = record { shown = tt; strobed = refl }

resume-silent : (place : ℕ) (action : Action) (after : List Frame) (held : Option Vector) (now : Environment) → ShowsNothing (resume place action after held now).effect
resume-silent place (AssignDelayed amount targets value) after held now = record { shown = tt; strobed = refl }
resume-silent place _ after held now = record { shown = tt; strobed = refl }

pub execute_at-silent : (frame : Frame) (action : Action) (after : List Frame) (held : Option Vector) (now : Environment) → is_print action ≡ false →
    ShowsNothing (execute_at frame action after held now).effect
execute_at-silent (Executing place) action after held now h = execute-silent place action after now h
execute_at-silent (Repeating place n) action after held now h = execute_turn-silent place n action after
execute_at-silent (Writing place) action after held now h = resume-silent place action after held now

-- ---- monitor events that wait

abbrev pub HasNoStrobe : Queue → Type 0
HasNoStrobe q = q.strobes ≡ []

pub posts-none : (posted : Option Post) (q : Queue) → HasNoStrobe q → HasNoStrobe (posts posted q)
posts-none posted q h = posts_by HasNoStrobe posted q h (λ post is. h) h (λ post t is lt within. h)

pub reschedule-none : (p : ℕ) (disposition : Disposition) (goes : Option ℕ) (q : Queue) → HasNoStrobe q → HasNoStrobe (reschedule p disposition goes q)
reschedule-none p Runnable None q h = h
reschedule-none p Runnable (Some same) q h = h
reschedule-none p (Delayed d) goes q h = sleeps_by HasNoStrobe d goes q h (λ p is. h) h (λ t lt within. h)
reschedule-none p (Waiting place) goes q h = h

pub update-none : (updates : List (List Part)) (q : Queue) → HasNoStrobe q → HasNoStrobe (without_update updates q)
update-none [] q h = h
update-none (u ∷ us) q h = h

pub advance-none : (future : List (ℕ × Later)) (q : Queue) → HasNoStrobe q → HasNoStrobe (with_advance future q)
advance-none [] q h = h
advance-none (e ∷ es) q h = h

run-none : (active : List ℕ) (activated : List (List Part)) (inactive : List ℕ) (posted : List (List Part)) (strobes : List ℕ) → strobes ≡ [] →
    run_monitors active activated inactive posted strobes ≡ []
run-none (p ∷ ps) us is posts strobes none = refl
run-none [] (u ∷ us) is posts strobes none = refl
run-none [] [] (i ∷ is) posts strobes none = refl
run-none [] [] [] (u ∷ us) strobes none = refl
run-none [] [] [] [] strobes none = none

pub monitors-none : (s : State) → HasNoStrobe s.queue → monitors_of s ≡ []
monitors-none s none = by_cause s.cause
  where
    by_cause : (cause : Option Cause) → monitors_by cause s ≡ []
    by_cause (Some cause) = refl
    by_cause None = run-none s.queue.active s.queue.activated s.queue.inactive s.queue.posted s.queue.strobes none

-- ---- the lines of the slot

end_lines : (cause : Option Cause) (s : State) (bag : List (List ℕ)) → with_lines (before_end [] (slot_end_by cause s)) bag ≡ bag
end_lines (Some cause) s bag = refl
end_lines None s bag = idle_lines s.queue.active s.queue.activated
  where
    idle_lines : (active : List ℕ) (activated : List (List Part)) → with_lines (before_end [] (idle_items active activated s.queue.time s.values)) bag ≡ bag
    idle_lines [] [] = refl
    idle_lines [] (u ∷ us) = refl
    idle_lines (p ∷ ps) us = refl

silent_lines : (design : Design) (s : State) (shown : Option Shown) (monitors : List ℕ) (bag : List (List ℕ)) → ShowsNoLine shown → monitors ≡ [] →
    with_lines (shown_items design s shown ++ before_end (strobe_items design s monitors) (slot_end_of s)) bag ≡ bag
silent_lines design s shown monitors bag lineless none =
    ap (λ (ms : List ℕ). with_lines (shown_items design s shown ++ before_end (strobe_items design s ms) (slot_end_of s)) bag) none ∙ by_shown shown lineless
  where
    by_shown : (shown : Option Shown) → ShowsNoLine shown → with_lines (shown_items design s shown ++ before_end [] (slot_end_of s)) bag ≡ bag
    by_shown None lineless = end_lines s.cause s bag
    by_shown (Some (Commands command)) lineless = end_lines s.cause s bag
    by_shown (Some (Prints place)) lineless = elim lineless [ ]
    by_shown (Some (Watches place)) lineless = end_lines s.cause s bag

pub silent_printed : (design : Design) (c : Choice) (transition : Transition) (printed : Option (List (List ℕ))) →
    ShowsNoLine transition.effect.shown → transition.monitors ≡ [] →
    printed_after c (items_of design transition) printed ≡ option_map (lines_before c) printed
silent_printed design c transition None shown none = refl
silent_printed design c transition (Some bag) shown none =
    ap Some (silent_lines design transition.state transition.effect.shown transition.monitors (lines_before c bag) shown none)
