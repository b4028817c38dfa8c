-- Time never falls along a run.
use Rattle.std.proofs.Common.{◌≡◌, ℕ, suc, ◌<◌, ◌≤◌, List, [], ◌∷◌, length, Option, Some, None, refl, sym, subst, ◌∙◌, arith}
use Rattle.std.specs.Prelude.{slice_get}
use Rattle.basis.proofs.Lists.{listed_place}
use Rattle.sched_core.specs.Rules.{choice_at, IsRun}
use Rattle.vdesign.specs.Design.{Design}
use Rattle.vdesign.specs.declared.action.Action.{Action}
use Rattle.sched_core.specs.declared.end.Cause.{Cause}
use Rattle.vmodel.specs.declared.part.Part.{Part}
use Rattle.vmodel.specs.declared.effect.Post.{Post}
use Rattle.vmodel.specs.declared.effect.Disposition.{Disposition}
use Rattle.vmodel.specs.declared.effect.Disposition.TheVariants.{Runnable, Delayed, Waiting}
use Rattle.vmodel.specs.declared.frame.Frame.{Frame}
use Rattle.vmodel.specs.declared.choice.Choice.{Choice}
use Rattle.vmodel.specs.declared.choice.Choice.TheVariants.{Run, Update, Advance}
use Rattle.vmodel.specs.Queue.{Later, Queue}
use Rattle.vmodel.specs.State.{State}
use Rattle.vmodel.specs.Choices.{choices}
use Rattle.vmodel.specs.Step.{environment_of, StepResult, execute_at, place_of, process_to_continue, with_next_step, reschedule, posts, with_strobe, with_queue_moves, with_moves_by, with_woken, with_moves, with_step, transition_with, action_transition, continuation_transition, continuation_of, held_of, without_update, with_update, with_advance, transition_of, transition_by, next}
use Rattle.vmodel.specs.Run.{Setting, rules_of, state_after}
use Rattle.vmodel.specs.RunProgress.{after_is, width_is}
use Rattle.vmodel.specs.Kept.{IsKept}
use Rattle.vmodel.proofs.MovedLemmas.{sleeps_by, posts_by, settled_by}
use Rattle.vmodel.proofs.OpenLemmas.{IsOpen, open_choice}
use Rattle.vmodel.proofs.KeptLemmas.{kept}

-- ---- the time after a step

time-with_queue_moves : (q : Queue) → (with_queue_moves q).time ≡ q.time
time-with_queue_moves q = settled_by (λ (r : Queue). r.time ≡ q.time) q (λ busy. refl) (λ i is a b. refl) (λ u us. refl) (λ idle i p. refl)

pub time-with_moves : (s : State) → (with_moves s).queue.time ≡ s.queue.time
time-with_moves s = by_cause s.cause
  where
    by_cause : (cause : Option Cause) → (with_moves_by cause s).queue.time ≡ s.queue.time
    by_cause (Some cause) = refl
    by_cause None = time-with_queue_moves s.queue

time-goes_on : (p : ℕ) (goes : Option ℕ) (q : Queue) → (with_next_step p goes q).time ≡ q.time
time-goes_on p None q = refl
time-goes_on p (Some same) q = refl

time-reschedule : (p : ℕ) (disposition : Disposition) (goes : Option ℕ) (q : Queue) → (reschedule p disposition goes q).time ≡ q.time
time-reschedule p Runnable goes q = time-goes_on p goes q
time-reschedule p (Delayed d) goes q = sleeps_by (λ (r : Queue). r.time ≡ q.time) d goes q refl (λ r is. refl) refl (λ t lt within. refl)
time-reschedule p (Waiting place) goes q = refl

time-posts : (posted : Option Post) (q : Queue) → (posts posted q).time ≡ q.time
time-posts posted q = posts_by (λ (r : Queue). r.time ≡ q.time) posted q refl (λ post is. refl) refl (λ post t is lt within. refl)

time-transition_with : (design : Design) (p : ℕ) (step : StepResult) (s : State) → (transition_with design p step s).state.queue.time ≡ s.queue.time
time-transition_with design p step s =
    time-with_moves (with_woken design s.values step.effect.triggered (with_step p step s))
    ∙ time-reschedule p step.effect.disposition (process_to_continue p step.continuation) (posts step.effect.posted (with_strobe step.effect.strobed s.queue))
    ∙ time-posts step.effect.posted (with_strobe step.effect.strobed s.queue)

time-action_transition : (design : Design) (p : ℕ) (frame : Frame) (action : Option Action) (after : List Frame) (s : State) → (action_transition design p frame action after s).state.queue.time ≡ s.queue.time
time-action_transition design p frame None after s = refl
time-action_transition design p frame (Some action) after s = time-transition_with design p (execute_at frame action after (held_of (slice_get s.processes p)) (environment_of design s)) s

pub time-process : (design : Design) (p : ℕ) (continuation : List Frame) (s : State) → (continuation_transition design p continuation s).state.queue.time ≡ s.queue.time
time-process design p [] s = refl
time-process design p (frame ∷ after) s = time-action_transition design p frame (slice_get design.actions (place_of frame)) after s

pub time-with_update : (us : List (List Part)) (q : Queue) → (without_update us q).time ≡ q.time
time-with_update [] q = refl
time-with_update (u ∷ us) q = refl

later-advanced : (s : State) (future : List (ℕ × Later)) → s.queue.future ≡ future → IsKept s → ¬ (future ≡ []) →
    s.queue.time ≤ (with_advance future s.queue).time
later-advanced s [] is kept some = absurd (some refl)
later-advanced s (e ∷ es) is kept some =
    let h = rw is at kept.order.future in omega (arith, h.0)

transition-later : (design : Design) (c : Choice) (s : State) → IsKept s → IsOpen c s.queue → s.queue.time ≤ (transition_of design c s).state.queue.time
transition-later design (Run p) s kept active = omega (arith, time-process design p (continuation_of (slice_get s.processes p)) s)
transition-later design Update s kept some =
    omega (arith, time-with_moves (with_woken design s.values None (with_update s)), time-with_update s.queue.activated s.queue)
transition-later design Advance s kept allowed =
    omega (
      arith,
      later-advanced s s.queue.future refl kept allowed.1,
      time-with_moves (record s { queue = with_advance s.queue.future s.queue }),
    )

next-later : (design : Design) (s : State) (i : ℕ) → IsKept s → i < length (choices s) → s.queue.time ≤ (next design s i).state.queue.time
next-later design s i kept lt =
    let there = listed_place (choices s) i lt in
    let allowed = open_choice s i there.0 kept there.1 in
    subst (λ (o : Option Choice). s.queue.time ≤ (transition_by design s i o).state.queue.time) (sym there.1)
    (transition-later design there.0 s kept allowed.1)

-- ---- the run

-- time never falls with a step
pub time_never_falls : (setting : Setting) (log : List (ℕ × ℕ)) (n : ℕ) → IsRun (rules_of setting) log (suc n) →
    (state_after setting log n).queue.time ≤ (state_after setting log (suc n)).queue.time
time_never_falls setting log n run =
    let s = state_after setting log n in
    let i = choice_at log n in
    subst (λ (t : State). s.queue.time ≤ t.queue.time) (sym (after_is setting s i))
    (next-later setting.design s i (kept setting log n) (omega (arith, run n (omega arith), width_is setting s)))
