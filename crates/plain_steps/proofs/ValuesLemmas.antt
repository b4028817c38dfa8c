-- The states and the slot ends of a run have as many values as the design has variables.
use Rattle.std.proofs.Common.{◌≡◌, ℕ, zero, suc, List, [], ◌∷◌, length, Option, Some, None, All, refl, ap, ◌∙◌}
use Rattle.std.specs.Prelude.{slice_get}
use Rattle.std.proofs.lemmas.List.{length-map}
use Rattle.std.proofs.lemmas.List.Elements.{All-nil, All-cons, All-append}
use Rattle.sched_core.specs.Rules.{choice_at}
use Rattle.vbits.specs.Vectors.{Vector}
use Rattle.vdesign.specs.Design.{Design}
use Rattle.vdesign.specs.declared.action.Action.{Action}
use Rattle.sched_core.specs.declared.end.Cause.{Cause}
use Rattle.vmodel.specs.declared.history.Item.{Item}
use Rattle.vmodel.specs.declared.history.Item.TheVariants.{SlotEnd, Dump, Monitor}
use Rattle.vmodel.specs.declared.effect.Shown.{Shown}
use Rattle.vmodel.specs.declared.effect.Shown.TheVariants.{Commands, Prints, Watches}
use Rattle.vmodel.specs.declared.part.Part.{Part}
use Rattle.vmodel.specs.declared.frame.Frame.{Frame}
use Rattle.vmodel.specs.declared.choice.Choice.{Choice}
use Rattle.vmodel.specs.declared.choice.Choice.TheVariants.{Run, Update, Advance}
use Rattle.vmodel.specs.State.{State}
use Rattle.vmodel.specs.Choices.{choices}
use Rattle.vmodel.specs.Step.{environment_of, Transition, execute_at, place_of, with_moves_by, with_woken, with_moves, with_step, action_transition, continuation_transition, continuation_of, held_of, first_of, with_update, with_advance, transition_of, transition_by, next, line_item, shown_items, idle_items, slot_end_by, slot_end_of, strobe_items, before_end, end_items, items_of}
use Rattle.vmodel.specs.Run.{Setting, opening_value, opening_of, state_after, items_after}
use Rattle.vmodel.specs.RunProgress.{opening_is, after_is}
use Rattle.vmodel.specs.Kept.{HasValues}
use Rattle.vmodel.proofs.PartLemmas.{written_length}

-- ---- a step

length-with_moves : (s : State) → length (with_moves s).values ≡ length s.values
length-with_moves s = by_cause s.cause
  where
    by_cause : (cause : Option Cause) → length (with_moves_by cause s).values ≡ length s.values
    by_cause (Some cause) = refl
    by_cause None = refl

action_transition-full : (design : Design) (p : ℕ) (frame : Frame) (action : Option Action) (after : List Frame) (s : State) → length (action_transition design p frame action after s).state.values ≡ length s.values
action_transition-full design p frame None after s = refl
action_transition-full design p frame (Some action) after s =
    let step = execute_at frame action after (held_of (slice_get s.processes p)) (environment_of design s) in
    length-with_moves (with_woken design s.values step.effect.triggered (with_step p step s)) ∙ written_length step.effect.wrote s.values

process-full : (design : Design) (p : ℕ) (continuation : List Frame) (s : State) → length (continuation_transition design p continuation s).state.values ≡ length s.values
process-full design p [] s = refl
process-full design p (frame ∷ after) s = action_transition-full design p frame (slice_get design.actions (place_of frame)) after s

transition-full : (design : Design) (c : Choice) (s : State) → length (transition_of design c s).state.values ≡ length s.values
transition-full design (Run p) s = process-full design p (continuation_of (slice_get s.processes p)) s
transition-full design Update s = length-with_moves (with_woken design s.values None (with_update s)) ∙ written_length (first_of s.queue.activated) s.values
transition-full design Advance s = length-with_moves (record s { queue = with_advance s.queue.future s.queue })

next-full : (design : Design) (s : State) (i : ℕ) → length (next design s i).state.values ≡ length s.values
next-full design s i = by_choice (slice_get (choices s) i)
  where
    by_choice : (o : Option Choice) → length (transition_by design s i o).state.values ≡ length s.values
    by_choice None = refl
    by_choice (Some c) = transition-full design c s

-- ---- what is shown

shown-idle : (count : ℕ) (active : List ℕ) (activated : List (List Part)) (time : ℕ) (values : List Vector) → length values ≡ count →
    All (HasValues count) (idle_items active activated time values)
shown-idle count [] [] time values full = All-cons (HasValues count) (SlotEnd time values) [] full (All-nil (HasValues count))
shown-idle count [] (u ∷ us) time values full = All-nil (HasValues count)
shown-idle count (p ∷ ps) us time values full = All-nil (HasValues count)

shown-end : (count : ℕ) (s : State) → length s.values ≡ count → All (HasValues count) (slot_end_of s)
shown-end count s full = by_cause s.cause
  where
    by_cause : (cause : Option Cause) → All (HasValues count) (slot_end_by cause s)
    by_cause (Some cause) = All-nil (HasValues count)
    by_cause None = shown-idle count s.queue.active s.queue.activated s.queue.time s.values full

shown-at_once : (count : ℕ) (design : Design) (s : State) (shown : Option Shown) → All (HasValues count) (shown_items design s shown)
shown-at_once count design s None = All-nil (HasValues count)
shown-at_once count design s (Some (Commands command)) = All-cons (HasValues count) (Dump command) [] tt (All-nil (HasValues count))
shown-at_once count design s (Some (Prints place)) = All-cons (HasValues count) (line_item design s place) [] tt (All-nil (HasValues count))
shown-at_once count design s (Some (Watches place)) = All-cons (HasValues count) (Monitor place) [] tt (All-nil (HasValues count))

shown-strobes : (count : ℕ) (design : Design) (s : State) (places : List ℕ) → All (HasValues count) (strobe_items design s places)
shown-strobes count design s [] = All-nil (HasValues count)
shown-strobes count design s (place ∷ places) =
    All-cons (HasValues count) (line_item design s place) (strobe_items design s places) tt (shown-strobes count design s places)

shown-before : (count : ℕ) (strobes ends : List Item) → All (HasValues count) strobes → All (HasValues count) ends →
    All (HasValues count) (before_end strobes ends)
shown-before count strobes [] first then = then
shown-before count strobes (end ∷ ends) first then = All-append (HasValues count) strobes (end ∷ ends) first then

shown-transition : (count : ℕ) (design : Design) (transition : Transition) → length transition.state.values ≡ count → All (HasValues count) (items_of design transition)
shown-transition count design transition full =
    let s = transition.state in
    All-append (HasValues count) (shown_items design s transition.effect.shown) (end_items design s transition.monitors) (shown-at_once count design s transition.effect.shown)
    (shown-before count (strobe_items design s transition.monitors) (slot_end_of s) (shown-strobes count design s transition.monitors)
    (shown-end count s full))

-- ---- the run

pub as_many : (setting : Setting) (log : List (ℕ × ℕ)) (n : ℕ) → length (state_after setting log n).values ≡ length setting.design.variables
as_many setting log zero =
    ap (λ (s : State). length s.values) (opening_is setting) ∙ length-map setting.design.variables opening_value
as_many setting log (suc n) =
    let s = state_after setting log n in
    let i = choice_at log n in
    ap (λ (after : State). length after.values) (after_is setting s i)
    ∙ next-full setting.design s i
    ∙ as_many setting log n

pub as_many_shown : (setting : Setting) (log : List (ℕ × ℕ)) (n : ℕ) → All (HasValues (length setting.design.variables)) (items_after setting log n)
as_many_shown setting log zero =
    shown-end (length setting.design.variables) (opening_of setting) (length-map setting.design.variables opening_value)
as_many_shown setting log (suc n) =
    let s = state_after setting log n in
    let i = choice_at log n in
    let count = length setting.design.variables in
    let transition = next setting.design s i in
    All-append (HasValues count) (items_after setting log n) (items_of setting.design transition) (as_many_shown setting log n)
    (shown-transition count setting.design transition (next-full setting.design s i ∙ as_many setting log n))
