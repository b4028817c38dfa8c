-- In each run of a text's design what a process has left begins at the place of an action.
use Rattle.std.proofs.Common.{◌≡◌, ℕ, zero, suc, List, [], ◌∷◌, map, Option, Some, None, refl, sym, ap, subst, ◌∙◌}
use Rattle.std.specs.Prelude.{slice_get, slice_set}
use Rattle.basis.specs.declared.timescale.Timescale.{Timescale}
use Rattle.vwords.specs.Words.{Text}
use Rattle.vast.specs.NumberedModules.{SourceTree}
use Rattle.sched_core.specs.Rules.{choice_at}
use Rattle.sched_core.specs.declared.end.Cause.{Cause}
use Rattle.vdesign.specs.Design.{Design}
use Rattle.vdesign.specs.declared.action.Action.{Action}
use Rattle.vmodules.specs.Hierarchy.{top_of}
use Rattle.vhierarchy.specs.Instances.{Elaborates}
use Rattle.vmodel.specs.declared.frame.Frame.{Frame}
use Rattle.vmodel.specs.declared.choice.Choice.{Choice}
use Rattle.vmodel.specs.declared.choice.Choice.TheVariants.{Run, Update, Advance}
use Rattle.vmodel.specs.State.{Process, State}
use Rattle.vmodel.specs.Waking.{wakes, awake}
use Rattle.vmodel.specs.Choices.{choices}
use Rattle.vmodel.specs.Step.{StepResult, environment_of, execute_at, held_of, continuation_of, place_of, process_by, with_moves_by, with_moves, with_step, with_woken, transition_with, action_transition, continuation_transition, with_update, with_advance, transition_of, transition_by, next}
use Rattle.vmodel.specs.Run.{Setting, opening_process, state_after}
use Rattle.vmodel.specs.RunProgress.{opening_is, after_is}
use Rattle.statement_law.specs.Laws.{Begin, AllStand, FollowsTrees}
use Rattle.statement_law.specs.DesignLaws.{begins_of_top, DesignBegins, StandsByText}
use Rattle.statement_law.specs.Standing.{StandAt}
use Rattle.holding_law.specs.Held.{HasActions}

-- ---- a process that isn't there

absent_map : {A B : Type 0} (f : A → B) (xs : List A) (p : ℕ) → slice_get xs p ≡ None → slice_get (map f xs) p ≡ None
absent_map f [] p none = refl
absent_map f (x ∷ xs) zero none = cc
absent_map f (x ∷ xs) (suc p) none = absent_map f xs p none

absent_set : (processes : List Process) (q p : ℕ) (process : Process) → slice_get processes p ≡ None → slice_get (slice_set processes q process) p ≡ None
absent_set [] q p process none = refl
absent_set (x ∷ xs) zero zero process none = cc
absent_set (x ∷ xs) zero (suc p) process none = none
absent_set (x ∷ xs) (suc q) zero process none = cc
absent_set (x ∷ xs) (suc q) (suc p) process none = absent_set xs q p process none

abbrev IsAbsent : ℕ → State → Type 0
IsAbsent p s = slice_get s.processes p ≡ None

absent-with_moves : (p : ℕ) (s : State) → IsAbsent p s → IsAbsent p (with_moves s)
absent-with_moves p s none = by_cause s.cause
  where
    by_cause : (cause : Option Cause) → IsAbsent p (with_moves_by cause s)
    by_cause (Some cause) = none
    by_cause None = none

absent-with_woken : (design : Design) (p : ℕ) (s changed : State) (triggered : Option ℕ) → IsAbsent p changed →
    IsAbsent p (with_moves (with_woken design s.values triggered changed))
absent-with_woken design p s changed triggered none =
    absent-with_moves p (with_woken design s.values triggered changed)
    (absent_map (awake (wakes design.actions s.values changed.values triggered)) changed.processes p none)

absent-step : (design : Design) (q p : ℕ) (step : StepResult) (s : State) → IsAbsent p s → IsAbsent p (transition_with design q step s).state
absent-step design q p step s none =
    absent-with_woken design p s (with_step q step s) step.effect.triggered (absent_set s.processes q p (process_by step) none)

absent-action : (design : Design) (q p : ℕ) (frame : Frame) (action : Option Action) (after : List Frame) (s : State) → IsAbsent p s →
    IsAbsent p (action_transition design q frame action after s).state
absent-action design q p frame None after s none = none
absent-action design q p frame (Some action) after s none =
    absent-step design q p (execute_at frame action after (held_of (slice_get s.processes q)) (environment_of design s)) s none

absent-process : (design : Design) (q p : ℕ) (left : List Frame) (s : State) → IsAbsent p s → IsAbsent p (continuation_transition design q left s).state
absent-process design q p [] s none = none
absent-process design q p (frame ∷ after) s none = absent-action design q p frame (slice_get design.actions (place_of frame)) after s none

absent-transition : (design : Design) (p : ℕ) (c : Choice) (s : State) → IsAbsent p s → IsAbsent p (transition_of design c s).state
absent-transition design p (Run q) s none = absent-process design q p (continuation_of (slice_get s.processes q)) s none
absent-transition design p Update s none = absent-with_woken design p s (with_update s) None none
absent-transition design p Advance s none = absent-with_moves p (record s { queue = with_advance s.queue.future s.queue }) none

absent-next : (design : Design) (p i : ℕ) (s : State) → IsAbsent p s → IsAbsent p (next design s i).state
absent-next design p i s none = by (slice_get (choices s) i)
  where
    by : (o : Option Choice) → IsAbsent p (transition_by design s i o).state
    by None = none
    by (Some c) = absent-transition design p c s none

absent : (setting : Setting) (log : List (ℕ × ℕ)) (n p : ℕ) → slice_get setting.design.processes p ≡ None → IsAbsent p (state_after setting log n)
absent setting log zero p none = subst (IsAbsent p) (sym (opening_is setting)) (absent_map opening_process setting.design.processes p none)
absent setting log (suc n) p none =
    let s = state_after setting log n in
    subst (IsAbsent p) (sym (after_is setting s (choice_at log n)))
    (absent-next setting.design p (choice_at log n) s (absent setting log n p none))

-- ---- a process of a text's design

none_stands : (actions : List Action) (begins : List Begin) (processes : List (List ℕ)) (p : ℕ) → AllStand actions begins processes →
    slice_get begins p ≡ None → slice_get processes p ≡ None
none_stands actions [] [] p stand none = refl
none_stands actions [] (places ∷ others) p stand none = absurd stand
none_stands actions (one ∷ more) [] p stand none = absurd stand
none_stands actions (one ∷ more) (places ∷ others) zero stand none = cc
none_stands actions (one ∷ more) (places ∷ others) (suc p) stand none = none_stands actions more others p stand.1 none

pub has_actions : DesignBegins → FollowsTrees → StandsByText → (modules : SourceTree) (top : Option Text) (scale : Timescale) (setting : Setting)
    (log : List (ℕ × ℕ)) (n : ℕ) → Elaborates modules top scale setting.design → HasActions setting.design (state_after setting log n)
has_actions begin trees text modules top scale setting log n made p frame after left = by (slice_get begins p) refl
  where
    s : State
    s = state_after setting log n

    begins : List Begin
    begins = begins_of_top modules (top_of modules top)

    by : (o : Option Begin) → slice_get begins p ≡ o → (action : Action) × (slice_get setting.design.actions (place_of frame) ≡ Some action)
    by None none =
        let gone = absent setting log n p (none_stands setting.design.actions begins setting.design.processes p (begin modules top scale setting.design made) none) in
        let no : [] ≡ frame ∷ after = sym (ap continuation_of gone) ∙ left in cc
    by (Some one) is =
        let somewhere = text modules top scale setting p one log n made is in
        let step = trees one.scope (environment_of setting.design s) None setting.design.actions somewhere.at.pending frame after
        (subst (StandAt one.scope setting.design.actions somewhere.at.pending) left somewhere.there.stands) in
        (step.action, step.there)
