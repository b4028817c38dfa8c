-- What is held back is active, and something else is, too.
use Rattle.std.proofs.Common.{◌≡◌, ◌≢◌, inl, inr, ℕ, zero, suc, ◌<◌, ◌≤◌, ◌==◌, ◌&&◌, Bool, true, false, cond, List, [], ◌∷◌, take, length, Option, Some, None, refl, sym, ap, subst, ◌∙◌, arith}
use Rattle.std.specs.Prelude.{slice_get}
use Rattle.std.specs.Option.{ForSome}
use Rattle.vdesign.specs.Design.{Design}
use Rattle.vdesign.specs.declared.action.Action.{Action}
use Rattle.sched_core.specs.declared.end.Cause.{Cause}
use Rattle.vmodel.specs.declared.part.Part.{Part}
use Rattle.vmodel.specs.declared.effect.Disposition.{Disposition}
use Rattle.vmodel.specs.declared.effect.Disposition.TheVariants.{Runnable, Delayed, Waiting}
use Rattle.vmodel.specs.declared.frame.Frame.{Frame}
use Rattle.vmodel.specs.declared.choice.Choice.{Choice}
use Rattle.vmodel.specs.declared.choice.Choice.TheVariants.{Run, Update, Advance}
use Rattle.vbits.specs.Vectors.{Vector}
use Rattle.vmodel.specs.Queue.{Queue, with_process, without_process}
use Rattle.vmodel.specs.State.{State}
use Rattle.vmodel.specs.Waking.{wakes}
use Rattle.vmodel.specs.Choices.{free_among, order_of}
use Rattle.vmodel.specs.Holding.{count_before, with_one_held, with_held, before_choice, without_taken, held_with, release, held_after}
use Rattle.vmodel.specs.Step.{environment_of, StepResult, execute_at, held_of, place_of, process_to_continue, deactivate, with_next_step, reschedule, posts, with_strobe, with_moves_by, with_woken, with_moves, with_step, transition_with, action_transition, continuation_transition, continuation_of, without_update, with_update, transition_of}
use Rattle.vmodel.specs.Kept.{RisesFrom, count_in, AreHeldBack, IsKept}
use Rattle.vmodel.proofs.PlaceLemmas.{alike, count-other, count-self, count-cons, count-with, count-without, count-without_self, without_rises, with_rises}
use Rattle.vmodel.proofs.ProcessLemmas.{without_other, without_same}
use Rattle.vmodel.proofs.MovedLemmas.{sleeps_by, settled_by, active-posts}
use Rattle.vmodel.proofs.AwakeLemmas.{awake_keeps}
use Rattle.vmodel.proofs.OpenLemmas.{IsOpen, AreOpen, AreActive, open_order}

-- ---- once released, always released

abbrev nobody : List ℕ
nobody = []

either : (b : Bool) → cond b nobody nobody ≡ nobody
either true = refl
either false = refl

pub released-none : (q : Queue) → release q [] ≡ []
released-none q = either (length q.active == 0 && length q.activated == 0)

pub none-held : (q : Queue) → AreHeldBack q []
none-held q = record { rises = tt; active = λ p. omega arith; released = released-none q }

released-held : (q : Queue) (held : List ℕ) → RisesFrom 0 held → AreActive q held → AreHeldBack q (release q held)
released-held q held rises active = by (length (free_among held q.active) == 0 && length q.activated == 0) refl
  where
    by : (b : Bool) → (length (free_among held q.active) == 0 && length q.activated == 0) ≡ b → AreHeldBack q (cond b [] held)
    by true is = none-held q
    by false is = record { rises = rises; active = active; released = ap (λ (b : Bool). cond b [] held) is }

-- ---- what a choice holds back

above_none : (r low : ℕ) (ps : List ℕ) → RisesFrom low ps → r < low → count_in r ps ≡ 0
above_none r low [] rises lt = refl
above_none r low (p ∷ ps) rises lt =
    count-other r p ps (λ same. absurd (omega (arith, same, rises.0, lt))) ∙ above_none r (suc p) ps rises.1 (omega (arith, rises.0, lt))

rises-once : (r low : ℕ) (ps : List ℕ) → RisesFrom low ps → count_in r ps ≤ 1
rises-once r low [] rises = omega arith
rises-once r low (p ∷ ps) rises = elim (alike r p) [
  | inl e ↦ omega (arith, ap (λ (n : ℕ). count_in r (n ∷ ps)) (sym e), count-self r ps, above_none r (suc p) ps rises.1 (omega (arith, e)))
  | inr ne ↦ omega (arith, count-other r p ps ne, rises-once r (suc p) ps rises.1)
]

one-active : (q : Queue) (p : ℕ) (held : List ℕ) → 1 ≤ count_in p q.active → RisesFrom 0 held → AreActive q held → AreActive q (with_process p held)
one-active q p held some rises active r = elim (alike r p) [
  | inl e ↦ subst (λ (n : ℕ). count_in n (with_process p held) ≤ count_in n q.active) (sym e)
      (omega (arith, some, rises-once p 0 (with_process p held) (with_rises p 0 held rises (omega arith))))
  | inr ne ↦ omega (arith, active r, count-with p r held, count-other r p [] ne)
]

record AreSome (q : Queue) (held : List ℕ) : Type 0 where
  rises : RisesFrom 0 held
  active : AreActive q held

with_one : (q : Queue) (c : Choice) (held : List ℕ) → IsOpen c q → AreSome q held → AreSome q (with_one_held c held)
with_one q (Run p) held some are = record {
  rises = with_rises p 0 held are.rises (omega arith);
  active = one-active q p held some are.rises are.active;
}
with_one q Update held some are = are
with_one q Advance held some are = are

with_all : (q : Queue) (before : List Choice) (held : List ℕ) → AreOpen q before → AreSome q held → AreSome q (with_held before held)
with_all q [] held are some = some
with_all q (c ∷ before) held are some =
    with_all q before (with_one_held c held) (λ i d e. are (suc i) d e) (with_one q c held (are 0 c refl) some)

open_front : (q : Queue) (n : ℕ) (cs : List Choice) → AreOpen q cs → AreOpen q (take n cs)
open_front q zero cs are i c e = cc
open_front q (suc n) [] are i c e = cc
open_front q (suc n) (x ∷ cs) are zero c e = are 0 c e
open_front q (suc n) (x ∷ cs) are (suc i) c e = open_front q n cs (λ j d is. are (suc j) d is) i c e

before-held : (s : State) (held : List ℕ) (i : ℕ) → IsKept s → AreHeldBack s.queue held →
    AreSome s.queue (with_held (before_choice (order_of held s.queue) i) held)
before-held s held i kept are =
    with_all s.queue (before_choice (order_of held s.queue) i) held
    (open_front s.queue (count_before (length (order_of held s.queue)) i) (order_of held s.queue)
    (open_order held s.queue s.queue.grain s.queue.last refl kept.place.last are.active))
    (record { rises = are.rises; active = are.active })

without-taken_rises : (c : Choice) (held : List ℕ) → RisesFrom 0 held → RisesFrom 0 (without_taken c held)
without-taken_rises (Run p) held rises = without_rises p 0 held rises
without-taken_rises Update held rises = rises
without-taken_rises Advance held rises = rises

-- ---- what a step leaves active

moves-active : (s : State) (held : List ℕ) → AreActive s.queue held → AreActive (with_moves s).queue held
moves-active s held are = by_cause s.cause
  where
    none : (r : ℕ) (active : List ℕ) → s.queue.active ≡ [] → count_in r held ≤ count_in r active
    none r active is = omega (arith, are r, ap (count_in r) is)

    by_cause : (cause : Option Cause) → AreActive (with_moves_by cause s).queue held
    by_cause (Some cause) = are
    by_cause None = settled_by (λ (q : Queue). AreActive q held) s.queue (λ busy. are) (λ i is a b r. none r (i ∷ is) a) (λ u us. are) (λ idle i p. are)

woken-active : (design : Design) (before : List Vector) (triggered : Option ℕ) (s : State) (held : List ℕ) → AreActive s.queue held →
    AreActive (with_woken design before triggered s).queue held
woken-active design before triggered s held are r =
    omega (arith, are r, awake_keeps (wakes design.actions before s.values triggered) r 0 s.processes s.queue.active)

count-without_other : (p r : ℕ) (qs : List ℕ) → r ≢ p → count_in r (without_process p qs) ≡ count_in r qs
count-without_other p r [] ne = refl
count-without_other p r (q ∷ qs) ne = elim (alike p q) [
  | inl e ↦ ap (count_in r) (without_same p q qs e) ∙ count-without_other p r qs ne ∙ sym (count-other r q qs (λ same. ne (same ∙ sym e)))
  | inr differ ↦ omega (arith, ap (count_in r) (without_other p q qs differ), count-without_other p r qs ne, count-cons r q qs, count-cons r q (without_process p qs))
]

-- all but the process that is taken
without-active : (p : ℕ) (active held : List ℕ) → ((r : ℕ) → count_in r held ≤ count_in r active) → (r : ℕ) →
    count_in r (without_process p held) ≤ count_in r (without_process p active)
without-active p active held are r = elim (alike r p) [
  | inl e ↦ subst (λ (n : ℕ). count_in n (without_process p held) ≤ count_in n (without_process p active)) (sym e) (omega (arith, count-without_self p held))
  | inr ne ↦ omega (arith, are r, count-without_other p r held ne, count-without_other p r active ne)
]

less-active : (q : Queue) (p : ℕ) (held : List ℕ) → AreActive q held → AreActive q (without_process p held)
less-active q p held are r = omega (arith, are r, count-without p r held)

leaves-active : (p : ℕ) (q : Queue) (held : List ℕ) → AreActive q held → AreActive (deactivate p q) (without_process p held)
leaves-active p q held are = without-active p q.active held are

goes_on-active : (p : ℕ) (goes : Option ℕ) (q : Queue) (held : List ℕ) → AreActive q held → AreActive (with_next_step p goes q) (without_process p held)
goes_on-active p None q held are = leaves-active p q held are
goes_on-active p (Some same) q held are = less-active q p held are

reschedule-active : (p : ℕ) (disposition : Disposition) (goes : Option ℕ) (q : Queue) (held : List ℕ) → AreActive q held →
    AreActive (reschedule p disposition goes q) (without_process p held)
reschedule-active p Runnable goes q held are = goes_on-active p goes q held are
reschedule-active p (Delayed d) goes q held are =
    sleeps_by (λ (after : Queue). AreActive (deactivate p after) (without_process p held)) d goes q (leaves-active p q held are)
    (λ r is. leaves-active p q held are) (leaves-active p q held are) (λ t lt within. leaves-active p q held are)
reschedule-active p (Waiting place) goes q held are = leaves-active p q held are

step-active : (design : Design) (p : ℕ) (step : StepResult) (s : State) (held : List ℕ) → AreActive s.queue held →
    AreActive (transition_with design p step s).state.queue (without_process p held)
step-active design p step s held are =
    let q = posts step.effect.posted (with_strobe step.effect.strobed s.queue) in
    moves-active (with_woken design s.values step.effect.triggered (with_step p step s)) (without_process p held)
    (woken-active design s.values step.effect.triggered (with_step p step s) (without_process p held)
    (reschedule-active p step.effect.disposition (process_to_continue p step.continuation) q held
    (λ r. omega (arith, are r, ap (count_in r) (active-posts step.effect.posted (with_strobe step.effect.strobed s.queue))))))

action-active : (design : Design) (p : ℕ) (frame : Frame) (action : Option Action) (after : List Frame) (s : State) (held : List ℕ) →
    AreActive s.queue held → AreActive (action_transition design p frame action after s).state.queue (without_process p held)
action-active design p frame None after s held are = less-active s.queue p held are
action-active design p frame (Some action) after s held are =
    step-active design p (execute_at frame action after (held_of (slice_get s.processes p)) (environment_of design s)) s held are

process-active : (design : Design) (p : ℕ) (continuation : List Frame) (s : State) (held : List ℕ) → AreActive s.queue held →
    AreActive (continuation_transition design p continuation s).state.queue (without_process p held)
process-active design p [] s held are = less-active s.queue p held are
process-active design p (frame ∷ after) s held are = action-active design p frame (slice_get design.actions (place_of frame)) after s held are

updated-active : (us : List (List Part)) (q : Queue) (held : List ℕ) → AreActive q held → AreActive (without_update us q) held
updated-active [] q held are = are
updated-active (u ∷ us) q held are = are

transition-active : (design : Design) (c : Choice) (s : State) (held : List ℕ) → IsOpen c s.queue → AreActive s.queue held →
    AreActive (transition_of design c s).state.queue (without_taken c held)
transition-active design (Run p) s held some are = process-active design p (continuation_of (slice_get s.processes p)) s held are
transition-active design Update s held some are =
    moves-active (with_woken design s.values None (with_update s)) held
    (woken-active design s.values None (with_update s) held (updated-active s.queue.activated s.queue held are))
transition-active design Advance s held idle are =
    λ r. omega (arith, are r, ap (count_in r) idle.0.0)

-- ---- the step

some_same : (xs ys : List ℕ) → Some xs ≡ Some ys → xs ≡ ys
some_same xs ys is = cc

pub held-kept : (design : Design) (s : State) (i : ℕ) (c : Choice) → IsKept s → IsOpen c s.queue →
    ForSome (held_after s.held_back s.queue i c (transition_of design c s).state.queue) (AreHeldBack (transition_of design c s).state.queue)
held-kept design s i c kept some = by s.held_back refl
  where
    after : Queue
    after = (transition_of design c s).state.queue

    by : (o : Option (List ℕ)) → s.held_back ≡ o → ForSome (held_after o s.queue i c after) (AreHeldBack after)
    by None is = λ held now. cc
    by (Some held) is = λ left now.
        let are = before-held s held i kept (kept.held held is) in
        subst (AreHeldBack after) (some_same (release after (held_with held s.queue i c)) left now)
        (released-held after (held_with held s.queue i c)
        (without-taken_rises c (with_held (before_choice (order_of held s.queue) i) held) are.rises)
        (transition-active design c s (with_held (before_choice (order_of held s.queue) i) held) some are.active))
