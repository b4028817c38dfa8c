-- What every state of a run keeps: the opening state has it, and each step keeps it.
use Rattle.std.proofs.Common.{◌≡◌, ℕ, zero, suc, ◌+◌, ◌<◌, ◌≤◌, List, [], ◌∷◌, map, length, Option, Some, None, refl, sym, ap, subst, ◌∙◌, arith}
use Rattle.std.specs.Prelude.{slice_get}
use Rattle.sched_core.specs.Rules.{choice_at}
use Rattle.vdesign.specs.Design.{Design}
use Rattle.vdesign.specs.declared.action.Action.{Action}
use Rattle.sched_core.specs.declared.end.Cause.{Cause}
use Rattle.vmodel.specs.declared.part.Part.{Part}
use Rattle.vmodel.specs.declared.frame.Frame.{Frame}
use Rattle.vmodel.specs.declared.choice.Choice.{Choice}
use Rattle.vmodel.specs.declared.choice.Choice.TheVariants.{Run, Update, Advance}
use Rattle.vmodel.specs.Queue.{Later, Queue}
use Rattle.vmodel.specs.State.{State}
use Rattle.vmodel.specs.Choices.{choices}
use Rattle.vmodel.specs.Step.{environment_of, StepResult, execute_at, held_of, place_of, process_to_continue, with_moves_by, with_woken, with_moves, with_step, with_strobe, process_by, transition_with, action_transition, continuation_transition, without_update, with_update, with_advance, transition_of, transition_by, next}
use Rattle.sched_core.specs.declared.setting.Departures.{Departures}
use Rattle.sched_core.specs.declared.setting.Departures.TheVariants.{Taking, Holding}
use Rattle.std.specs.Option.{ForSome}
use Rattle.vmodel.specs.Run.{Setting, busy_from, opening_process, held_at_first, opening_of, state_after}
use Rattle.vmodel.specs.RunProgress.{opening_is, after_is}
use Rattle.vmodel.specs.Kept.{RisesFrom, IsInOrder, count_in, asleep, IsInPlace, AreHeldBack, IsKept, IsEmptied}
use Rattle.vmodel.specs.SlotEnds.{IsIdle}
use Rattle.vmodel.proofs.PlaceLemmas.{count-other, count-self, rises_below}
use Rattle.vmodel.proofs.MovedLemmas.{most_at, IsWaiting, nobody_last, settled_by, order-process_with_move, is_there, place-process_with_move, continuation_at}
use Rattle.vmodel.proofs.AwakeLemmas.{order-with_woken, place-with_woken}
use Rattle.vmodel.proofs.OpenLemmas.{IsOpen, open_choice}
use Rattle.vmodel.proofs.HeldLemmas.{none-held, held-kept}
use Rattle.vbits.specs.Vectors.{Vector}

-- all of it but what is held back, which is told anew behind the step
record IsQueueKept (s : State) : Type 0 where
  order : IsInOrder s.queue
  place : IsInPlace s.queue s.processes
  moves : s.cause ≡ None → IsIdle s.queue → IsEmptied s.queue

queue_kept : (s : State) → IsKept s → IsQueueKept s
queue_kept s kept = record { order = kept.order; place = kept.place; moves = kept.moves }

-- ---- the region moves

with_moves-kept : (s : State) → IsInOrder s.queue → IsInPlace s.queue s.processes → IsQueueKept (with_moves s)
with_moves-kept s order place = by_cause s.cause refl
  where
    -- what was inactive is active now, and what was active before is nothing
    state_with_move : (i : ℕ) (is : List ℕ) → s.queue.active ≡ [] → s.queue.inactive ≡ i ∷ is →
        IsInPlace (record s.queue { active = i ∷ is; inactive = [] }) s.processes
    state_with_move i is none some = record {
      once = λ p. omega (arith, place.once p, ap (count_in p) none, ap (count_in p) some);
      waiting = place.waiting;
      last = λ p e. absurd (omega (arith, place.last p e, ap (count_in p) none));
    }

    by_cause : (cause : Option Cause) → s.cause ≡ cause → IsQueueKept (with_moves_by cause s)
    by_cause (Some cause) is = record { order = order; place = place; moves = λ none. let no : None ≡ Some cause = sym none ∙ is in cc }
    by_cause None is = record {
      order = settled_by IsInOrder s.queue (λ moves. order)
          (λ i is none some. record { active = subst (RisesFrom 0) some order.inactive; inactive = tt; future = order.future })
          (λ u us. record { active = order.active; inactive = order.inactive; future = order.future })
          (λ idle i p. record { active = order.active; inactive = order.inactive; future = order.future });
      place = settled_by (λ (q : Queue). IsInPlace q s.processes) s.queue (λ moves. place) state_with_move
          (λ u us. record { once = place.once; waiting = place.waiting; last = place.last })
          (λ idle i p. record { once = place.once; waiting = place.waiting; last = place.last });
      moves = λ none. settled_by (λ (q : Queue). IsIdle q → IsEmptied q) s.queue (λ busy idle. absurd (busy idle))
          (λ i is a b idle. let no : i ∷ is ≡ [] = idle.0 in cc)
          (λ u us idle. let no : u ∷ us ≡ [] = idle.1 in cc)
          (λ done i p idle. (i, p, refl));
    }

with_woken-kept : (design : Design) (before : List Vector) (triggered : Option ℕ) (s : State) → IsInOrder s.queue → IsInPlace s.queue s.processes →
    IsQueueKept (with_moves (with_woken design before triggered s))
with_woken-kept design before triggered s order place =
    with_moves-kept (with_woken design before triggered s) (order-with_woken design before triggered s order) (place-with_woken design before triggered s place)

-- ---- the steps

with_update-kept : (s : State) (us : List (List Part)) → IsKept s →
    IsInOrder (without_update us s.queue) × IsInPlace (without_update us s.queue) s.processes
with_update-kept s [] kept = (kept.order, kept.place)
with_update-kept s (u ∷ us) kept = (
  record { active = kept.order.active; inactive = kept.order.inactive; future = kept.order.future },
  record { once = kept.place.once; waiting = kept.place.waiting; last = nobody_last (record s.queue { last = None; activated = us }) refl },
)

advanced-kept : (s : State) (future : List (ℕ × Later)) → s.queue.future ≡ future → IsKept s →
    IsInOrder (with_advance future s.queue) × IsInPlace (with_advance future s.queue) s.processes
advanced-kept s [] is kept = (kept.order, kept.place)
advanced-kept s (e ∷ es) is kept =
    let h = rw is at kept.order.future in (
      record { active = h.2; inactive = kept.order.inactive; future = h.3 },
      record {
        once = λ p. omega (arith, kept.place.once p, ap (asleep p) is);
        waiting = kept.place.waiting;
        last = nobody_last (with_advance (e ∷ es) s.queue) refl;
      },
    )

transition_with-kept : (design : Design) (p : ℕ) (step : StepResult) (s : State) → IsKept s → 1 ≤ count_in p s.queue.active → p < length s.processes →
    IsQueueKept (transition_with design p step s).state
transition_with-kept design p step s kept active lt =
    let q = with_strobe step.effect.strobed s.queue in
    with_woken-kept design s.values step.effect.triggered (with_step p step s)
    (order-process_with_move p step.effect.disposition step.effect.posted (process_to_continue p step.continuation) q
    (record { active = kept.order.active; inactive = kept.order.inactive; future = kept.order.future }))
    (place-process_with_move p step.effect.disposition step.effect.posted (process_by step) q s.processes
    (record { once = kept.place.once; waiting = kept.place.waiting; last = kept.place.last }) refl active lt)

action_transition-kept : (design : Design) (p : ℕ) (frame : Frame) (action : Option Action) (after : List Frame) (s : State) → IsKept s → 1 ≤ count_in p s.queue.active →
    p < length s.processes → IsQueueKept (action_transition design p frame action after s).state
action_transition-kept design p frame None after s kept active lt = queue_kept s kept
action_transition-kept design p frame (Some action) after s kept active lt = transition_with-kept design p (execute_at frame action after (held_of (slice_get s.processes p)) (environment_of design s)) s kept active lt

process-kept : (design : Design) (p : ℕ) (continuation : List Frame) (s : State) → IsKept s → continuation_at s.processes p ≡ continuation →
    1 ≤ count_in p s.queue.active → IsQueueKept (continuation_transition design p continuation s).state
process-kept design p [] s kept is active = queue_kept s kept
process-kept design p (frame ∷ after) s kept is active =
    action_transition-kept design p frame (slice_get design.actions (place_of frame)) after s kept active (is_there s.processes p frame after is)

transition-kept : (design : Design) (c : Choice) (s : State) → IsKept s → IsOpen c s.queue → IsQueueKept (transition_of design c s).state
transition-kept design (Run p) s kept active = process-kept design p (continuation_at s.processes p) s kept refl active
transition-kept design Update s kept allowed =
    let h = with_update-kept s s.queue.activated kept in with_woken-kept design s.values None (with_update s) h.0 h.1
transition-kept design Advance s kept allowed =
    let h = advanced-kept s s.queue.future refl kept in
    with_moves-kept (record s { queue = with_advance s.queue.future s.queue }) h.0 h.1

pub next-kept : (design : Design) (s : State) (i : ℕ) → IsKept s → IsKept (next design s i).state
next-kept design s i kept = by_choice (slice_get (choices s) i) refl
  where
    by_choice : (o : Option Choice) → slice_get (choices s) i ≡ o → IsKept (transition_by design s i o).state
    by_choice None is = kept
    by_choice (Some c) is =
        let is_open = (open_choice s i c kept is).1 in
        let after = transition-kept design c s kept is_open in
        record { order = after.order; place = after.place; held = held-kept design s i c kept is_open; moves = after.moves }

-- ---- the opening state

busy_rises : (n : ℕ) (ps : List (List ℕ)) → RisesFrom n (busy_from n ps)
busy_rises n [] = tt
busy_rises n ([] ∷ rest) = rises_below (suc n) n (busy_from (suc n) rest) (busy_rises (suc n) rest) (omega arith)
busy_rises n ((place ∷ places) ∷ rest) = (omega arith, busy_rises (suc n) rest)

busy_above : (r n : ℕ) (ps : List (List ℕ)) → r < n → count_in r (busy_from n ps) ≡ 0
busy_above r n [] lt = refl
busy_above r n ([] ∷ rest) lt = busy_above r (suc n) rest (omega arith)
busy_above r n ((place ∷ places) ∷ rest) lt = count-other r n (busy_from (suc n) rest) (omega arith) ∙ busy_above r (suc n) rest (omega arith)

busy_once : (r n k : ℕ) (ps : List (List ℕ)) → r ≡ n + k → count_in r (busy_from n ps) ≤ most_at (slice_get (map opening_process ps) k)
busy_once r n k [] e = omega arith
busy_once r n zero ([] ∷ rest) e = omega (arith, busy_above r (suc n) rest (omega arith))
busy_once r n (suc k) ([] ∷ rest) e = busy_once r (suc n) k rest (omega arith)
busy_once r n zero ((place ∷ places) ∷ rest) e =
    let same : r ≡ n = omega arith in
    omega (arith, ap (λ (m : ℕ). count_in r (m ∷ busy_from (suc n) rest)) (sym same), count-self r (busy_from (suc n) rest), busy_above r (suc n) rest (omega arith))
busy_once r n (suc k) ((place ∷ places) ∷ rest) e =
    omega (arith, count-other r n (busy_from (suc n) rest) (omega arith), busy_once r (suc n) k rest (omega arith))

opening_waiting : (ps : List (List ℕ)) (p : ℕ) → IsWaiting (slice_get (map opening_process ps) p)
opening_waiting [] p = tt
opening_waiting (places ∷ rest) zero = tt
opening_waiting (places ∷ rest) (suc p) = opening_waiting rest p

nobody_held : (departures : Departures) (q : Queue) → ForSome (held_at_first departures) (AreHeldBack q)
nobody_held Taking q = λ held is. cc
nobody_held Holding q = λ held is. subst (AreHeldBack q) (some_same [] held is) (none-held q)
  where
    some_same : (xs ys : List ℕ) → Some xs ≡ Some ys → xs ≡ ys
    some_same xs ys is = cc

pub opening-kept : (setting : Setting) → IsKept (opening_of setting)
opening-kept setting = record {
  order = record { active = busy_rises 0 setting.design.processes; inactive = tt; future = tt };
  place = record {
    once = λ p. omega (arith, busy_once p 0 p setting.design.processes (omega arith));
    waiting = λ p. opening_waiting setting.design.processes p;
    last = nobody_last (opening_of setting).queue refl;
  };
  held = nobody_held setting.departures (opening_of setting).queue;
  moves = λ none idle. (refl, refl, refl);
}

pub kept : (setting : Setting) (log : List (ℕ × ℕ)) (n : ℕ) → IsKept (state_after setting log n)
kept setting log zero = subst IsKept (sym (opening_is setting)) (opening-kept setting)
kept setting log (suc n) =
    subst IsKept (sym (after_is setting (state_after setting log n) (choice_at log n)))
    (next-kept setting.design (state_after setting log n) (choice_at log n) (kept setting log n))
