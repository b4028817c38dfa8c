-- The process that made the last step isn't held back, so choice 0 takes none that is.
use Rattle.std.proofs.Common.{◌≡◌, ◌≢◌, ℕ, zero, suc, ◌<◌, List, [], ◌∷◌, Option, Some, None, refl, sym, subst, ◌∙◌, arith}
use Rattle.std.specs.Prelude.{slice_get, unwrap_or}
use Rattle.std.specs.Option.{ForSome}
use Rattle.sched_core.specs.Rules.{choice_at}
use Rattle.sched_core.specs.declared.end.Cause.{Cause}
use Rattle.vdesign.specs.Design.{Design}
use Rattle.vdesign.specs.declared.action.Action.{Action}
use Rattle.vmodel.specs.declared.part.Part.{Part}
use Rattle.vmodel.specs.declared.frame.Frame.{Frame}
use Rattle.vmodel.specs.declared.effect.Disposition.{Disposition}
use Rattle.vmodel.specs.declared.effect.Disposition.TheVariants.{Runnable, Delayed, Waiting}
use Rattle.vmodel.specs.declared.choice.Choice.{Choice}
use Rattle.vmodel.specs.declared.choice.Choice.TheVariants.{Run, Update, Advance}
use Rattle.vmodel.specs.Queue.{Later, Queue}
use Rattle.vmodel.specs.State.{State}
use Rattle.vmodel.specs.Choices.{choices}
use Rattle.vmodel.specs.Holding.{held_after}
use Rattle.vmodel.specs.Step.{StepResult, environment_of, execute_at, held_of, continuation_of, process_to_continue, with_next_step, reschedule, posts, with_strobe, activate_next_region, with_moves_by, with_moves, with_step, with_woken, transition_with, action_transition, continuation_transition, without_update, with_update, with_advance, transition_of, with_views, transition_by, next}
use Rattle.vmodel.specs.Run.{Setting, state_after}
use Rattle.vmodel.specs.RunProgress.{opening_is, after_is}
use Rattle.plain_steps.specs.RunLaws.{IsAlwaysKept}
use Rattle.vmodel.specs.Kept.{most_places, waits_of, IsKept}
use Rattle.holding_law.specs.Held.{held_in, IsHeld, HasActions}
use Rattle.holding_law.proofs.MemberLemmas.{IsIn, in_counts, contains_in}
use Rattle.holding_law.proofs.MayLemmas.{MayGo, may_go}
use Rattle.holding_law.proofs.FreeLemmas.{default_free, last_first}
use Rattle.holding_law.proofs.ReleaseLemmas.{taken_none}

-- ---- which process made the last step

last-regions : (active : List ℕ) (activated : List (List Part)) (inactive : List ℕ) (posted : List (List Part)) (q : Queue) →
    (activate_next_region active activated inactive posted q).last ≡ q.last
last-regions (p ∷ ps) us is posts q = refl
last-regions [] (u ∷ us) is posts q = refl
last-regions [] [] (i ∷ is) posts q = refl
last-regions [] [] [] (u ∷ us) q = refl
last-regions [] [] [] [] q = refl

last-with_moves : (s : State) → (with_moves s).queue.last ≡ s.queue.last
last-with_moves s = by_cause s.cause
  where
    by_cause : (cause : Option Cause) → (with_moves_by cause s).queue.last ≡ s.queue.last
    by_cause (Some cause) = refl
    by_cause None = last-regions s.queue.active s.queue.activated s.queue.inactive s.queue.posted s.queue

-- it is this one, if there is one
abbrev IsOwn : ℕ → Option ℕ → Type 0
IsOwn p last = ForSome last (λ r. r ≡ p)

own_none : (p : ℕ) → IsOwn p None
own_none p = λ r e. cc

own-goes_on : (p : ℕ) (left : List Frame) (q : Queue) → IsOwn p (with_next_step p (process_to_continue p left) q).last
own-goes_on p [] q = own_none p
own-goes_on p (frame ∷ rest) q = λ r e. let same : p ≡ r = cc in sym same

own-reschedule : (p : ℕ) (disposition : Disposition) (left : List Frame) (q : Queue) →
    IsOwn p (reschedule p disposition (process_to_continue p left) q).last
own-reschedule p Runnable left q = own-goes_on p left q
own-reschedule p (Delayed d) left q = own_none p
own-reschedule p (Waiting place) left q = own_none p

own-step : (design : Design) (p : ℕ) (step : StepResult) (s : State) → IsOwn p (transition_with design p step s).state.queue.last
own-step design p step s =
    subst (IsOwn p) (sym (last-with_moves (with_woken design s.values step.effect.triggered (with_step p step s))))
    (own-reschedule p step.effect.disposition step.continuation (posts step.effect.posted (with_strobe step.effect.strobed s.queue)))

own-process : (design : Design) (p : ℕ) (left : List Frame) (s : State) → continuation_of (slice_get s.processes p) ≡ left → left ≢ [] →
    HasActions design s → IsOwn p (continuation_transition design p left s).state.queue.last
own-process design p [] s is some has = absurd (some refl)
own-process design p (frame ∷ after) s is some has =
    let there = has p frame after is in
    subst (λ (o : Option Action). IsOwn p (action_transition design p frame o after s).state.queue.last) (sym there.1)
    (own-step design p (execute_at frame there.0 after (held_of (slice_get s.processes p)) (environment_of design s)) s)

-- an active process has something left
has_left : (s : State) (p : ℕ) → IsKept s → IsIn p s.queue.active → continuation_of (slice_get s.processes p) ≢ []
has_left s p kept active = λ none.
    absurd (omega (arith, in_counts p s.queue.active active, kept.place.once p, few (waits_of (slice_get s.processes p)) (continuation_of (slice_get s.processes p)) none))
  where
    few : (waits : Option ℕ) (left : List Frame) → left ≡ [] → most_places waits left ≡ 0
    few (Some place) left none = refl
    few None [] none = refl
    few None (frame ∷ rest) none = cc

-- ---- after a step it is the one that was taken

abbrev IsTaken : Choice → ℕ → Type 0
IsTaken (Run p) r = r ≡ p
IsTaken Update r = ⊥
IsTaken Advance r = ⊥

updated_none : (us : List (List Part)) (q : Queue) → us ≢ [] → (without_update us q).last ≡ None
updated_none [] q some = absurd (some refl)
updated_none (u ∷ us) q some = refl

advanced_none : (future : List (ℕ × Later)) (q : Queue) → future ≢ [] → (with_advance future q).last ≡ None
advanced_none [] q some = absurd (some refl)
advanced_none (e ∷ es) q some = refl

last-transition : (design : Design) (c : Choice) (s : State) → IsKept s → MayGo s.queue c → HasActions design s →
    ForSome (transition_of design c s).state.queue.last (IsTaken c)
last-transition design (Run p) s kept active has =
    own-process design p (continuation_of (slice_get s.processes p)) s refl (has_left s p kept active) has
last-transition design Update s kept some has = λ r e.
    let none : None ≡ Some r =
    sym (last-with_moves (with_woken design s.values None (with_update s)) ∙ updated_none s.queue.activated s.queue some) ∙ e in cc
last-transition design Advance s kept allowed has = λ r e.
    let none : None ≡ Some r =
    sym (last-with_moves (record s { queue = with_advance s.queue.future s.queue }) ∙ advanced_none s.queue.future s.queue allowed.1) ∙ e in cc

-- ---- it isn't held back

abbrev LastIsFree : State → Type 0
LastIsFree s = ForSome s.queue.last (λ r. IsIn r (held_in s) → ⊥)

free-next : (design : Design) (s : State) (i : ℕ) → IsKept s → HasActions design s → LastIsFree s → LastIsFree (next design s i).state
free-next design s i kept has free = by (slice_get (choices s) i) refl
  where
    taken : (c : Choice) → ForSome (transition_of design c s).state.queue.last (IsTaken c) →
        LastIsFree (with_views design s i c (transition_of design c s)).state
    taken (Run p) own = λ r e.
        subst (λ (n : ℕ). IsIn n (unwrap_or (held_after s.held_back s.queue i (Run p) (transition_of design (Run p) s).state.queue) []) → ⊥)
        (sym (own r e)) (taken_none s.held_back s.queue i p (transition_of design (Run p) s).state.queue)
    taken Update own = λ r e. absurd (own r e)
    taken Advance own = λ r e. absurd (own r e)

    by : (o : Option Choice) → slice_get (choices s) i ≡ o → LastIsFree (transition_by design s i o).state
    by None is = free
    by (Some c) is = taken c (last-transition design c s kept (may_go s i c kept is).1 has)

last_free : IsAlwaysKept → (setting : Setting) (log : List (ℕ × ℕ)) (n : ℕ) → ((k : ℕ) → k < n → HasActions setting.design (state_after setting log k)) →
    LastIsFree (state_after setting log n)
last_free keeps setting log zero has = subst LastIsFree (sym (opening_is setting)) (λ r e. let none : None ≡ Some r = e in cc)
last_free keeps setting log (suc n) has =
    let s = state_after setting log n in
    subst LastIsFree (sym (after_is setting s (choice_at log n)))
    (free-next setting.design s (choice_at log n) (keeps setting log n) (has n (omega arith))
    (last_free keeps setting log n (λ k lt. has k (omega (arith, lt)))))

pub default_is_free : IsAlwaysKept → (setting : Setting) (log : List (ℕ × ℕ)) (n p : ℕ) →
    ((k : ℕ) → k < n → HasActions setting.design (state_after setting log k)) →
    slice_get (choices (state_after setting log n)) 0 ≡ Some (Run p) → IsHeld (state_after setting log n) p → ⊥
default_is_free keeps setting log n p has first held = by s.queue.last refl
  where
    s : State
    s = state_after setting log n

    by : (last : Option ℕ) → s.queue.last ≡ last → ⊥
    by None is = default_free s p (keeps setting log n) is first held
    by (Some r) is =
        let same : Some (Run r) ≡ Some (Run p) = sym (last_first s r (may_go s 0 (Run p) (keeps setting log n) first).0 is) ∙ first in
        let equal : p ≡ r = cc in
        last_free keeps setting log n has r is (subst (λ (m : ℕ). IsIn m (held_in s)) equal (contains_in p (held_in s) held))
