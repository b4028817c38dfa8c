-- The times of the slot ends that a run gives rise strictly.
use Rattle.std.proofs.Common.{◌≡◌, ℕ, zero, suc, ◌<◌, ◌≤◌, List, [], ◌∷◌, ◌++◌, length, Option, Some, None, refl, sym, ap, subst, ◌∙◌, arith}
use Rattle.std.specs.Prelude.{slice_get}
use Rattle.basis.proofs.Lists.{listed_place}
use Rattle.sched_core.specs.Rules.{choice_at, IsRun}
use Rattle.vdesign.specs.Design.{Design}
use Rattle.sched_core.specs.declared.end.Cause.{Cause}
use Rattle.vmodel.specs.declared.history.Item.{Item}
use Rattle.vmodel.specs.declared.history.Item.TheVariants.{SlotEnd, Dump, Line, Monitor}
use Rattle.vmodel.specs.declared.effect.Shown.{Shown}
use Rattle.vmodel.specs.declared.effect.Shown.TheVariants.{Commands, Prints, Watches}
use Rattle.vmodel.specs.declared.part.Part.{Part}
use Rattle.vmodel.specs.declared.choice.Choice.{Choice}
use Rattle.vmodel.specs.declared.choice.Choice.TheVariants.{Run, Update, Advance}
use Rattle.vmodel.specs.Queue.{Later}
use Rattle.vmodel.specs.State.{State}
use Rattle.vmodel.specs.Choices.{choices}
use Rattle.vmodel.specs.Step.{Transition, with_woken, continuation_of, with_update, with_advance, transition_of, with_views, transition_by, next, shown_items, idle_items, slot_end_by, slot_end_of, strobe_items, before_end, end_items, items_of}
use Rattle.vmodel.specs.Run.{Setting, rules_of, opening_of, state_after, items_after}
use Rattle.vmodel.specs.RunProgress.{opening_is, after_is, width_is}
use Rattle.vmodel.specs.Kept.{RisesFrom, IsKept, slot_times, count_in}
use Rattle.vmodel.specs.SlotEnds.{IsIdle}
use Rattle.vmodel.proofs.OpenLemmas.{IsOpen, open_choice}
use Rattle.vmodel.proofs.KeptLemmas.{kept}
use Rattle.vmodel.proofs.TimesLemmas.{time-with_moves, time-process, time-with_update}

-- ---- times one after another

-- from where on a rising list may go on
abbrev free_from : ℕ → List ℕ → ℕ
free_from low [] = low
free_from low (t ∷ ts) = free_from (suc t) ts

rises_on : (low t : ℕ) (ts : List ℕ) → RisesFrom low ts → free_from low ts ≤ t → RisesFrom low (ts ++ t ∷ [])
rises_on low t [] h le = (le, tt)
rises_on low t (n ∷ ns) h le = (h.0, rises_on (suc n) t ns h.1 le)

free_last : (low t : ℕ) (ts : List ℕ) → free_from low (ts ++ t ∷ []) ≡ suc t
free_last low t [] = refl
free_last low t (n ∷ ns) = free_last (suc n) t ns

slot_times-append : (xs ys : List Item) → slot_times (xs ++ ys) ≡ slot_times xs ++ slot_times ys
slot_times-append [] ys = refl
slot_times-append (SlotEnd time values ∷ xs) ys = ap (λ (ts : List ℕ). time ∷ ts) (slot_times-append xs ys)
slot_times-append (Dump command ∷ xs) ys = slot_times-append xs ys
slot_times-append (Line text ∷ xs) ys = slot_times-append xs ys
slot_times-append (Monitor place ∷ xs) ys = slot_times-append xs ys

append-none : (ts : List ℕ) → ts ++ [] ≡ ts
append-none [] = refl
append-none (t ∷ ts) = ap (λ (rest : List ℕ). t ∷ rest) (append-none ts)

-- ---- what a run has given when it stands at a state

-- a slot at the current time has ended only where nothing is active
record IsTimed (times : List ℕ) (s : State) : Type 0 where
  rises : RisesFrom 0 times
  within : free_from 0 times ≤ suc s.queue.time
  before : s.cause ≡ None → ¬ IsIdle s.queue → free_from 0 times ≤ s.queue.time

-- a state after times before its own, with its slot end
timed_end : (times : List ℕ) (s : State) → RisesFrom 0 times → free_from 0 times ≤ s.queue.time → IsTimed (times ++ slot_times (slot_end_of s)) s
timed_end times s rises le = by_cause s.cause refl
  where
    none_more : IsTimed (times ++ []) s
    none_more = subst (λ (ts : List ℕ). IsTimed ts s) (sym (append-none times))
        (record { rises = rises; within = omega (arith, le); before = λ none busy. le })

    by_idle : (active : List ℕ) (activated : List (List Part)) → s.queue.active ≡ active → s.queue.activated ≡ activated →
        IsTimed (times ++ slot_times (idle_items active activated s.queue.time s.values)) s
    by_idle [] [] a b = record {
      rises = rises_on 0 s.queue.time times rises le;
      within = omega (arith, free_last 0 s.queue.time times);
      before = λ none busy. absurd (busy (a, b));
    }
    by_idle [] (u ∷ us) a b = none_more
    by_idle (p ∷ ps) us a b = none_more

    by_cause : (cause : Option Cause) → s.cause ≡ cause → IsTimed (times ++ slot_times (slot_end_by cause s)) s
    by_cause (Some cause) is = none_more
    by_cause None is = by_idle s.queue.active s.queue.activated refl refl

none_shown : (design : Design) (s : State) (shown : Option Shown) → slot_times (shown_items design s shown) ≡ []
none_shown design s None = refl
none_shown design s (Some (Commands command)) = refl
none_shown design s (Some (Prints place)) = refl
none_shown design s (Some (Watches place)) = refl

none_strobed : (design : Design) (s : State) (places : List ℕ) → slot_times (strobe_items design s places) ≡ []
none_strobed design s [] = refl
none_strobed design s (place ∷ places) = none_strobed design s places

times_before : (strobes ends : List Item) → slot_times strobes ≡ [] → slot_times (before_end strobes ends) ≡ slot_times ends
times_before strobes [] none = refl
times_before strobes (end ∷ ends) none = slot_times-append strobes (end ∷ ends) ∙ ap (λ (ts : List ℕ). ts ++ slot_times (end ∷ ends)) none

-- the same after a turn, with all that it gives
timed_transition : (design : Design) (times : List ℕ) (transition : Transition) → RisesFrom 0 times → free_from 0 times ≤ transition.state.queue.time →
    IsTimed (times ++ slot_times (items_of design transition)) transition.state
timed_transition design times transition rises le =
    let s = transition.state in
    subst (λ (ts : List ℕ). IsTimed (times ++ ts) s)
    (sym (slot_times-append (shown_items design s transition.effect.shown) (end_items design s transition.monitors)
    ∙ ap (λ (ts : List ℕ). ts ++ slot_times (end_items design s transition.monitors)) (none_shown design s transition.effect.shown)
    ∙ times_before (strobe_items design s transition.monitors) (slot_end_of s) (none_strobed design s transition.monitors)))
    (timed_end times transition.state rises le)

-- ---- the time after a step

time-advanced : (times : List ℕ) (s : State) (future : List (ℕ × Later)) → s.queue.future ≡ future → IsKept s → ¬ (future ≡ []) →
    free_from 0 times ≤ suc s.queue.time → free_from 0 times ≤ (with_advance future s.queue).time
time-advanced times s [] is kept some le = absurd (some refl)
time-advanced times s (e ∷ es) is kept some le =
    let h = rw is at kept.order.future in omega (arith, h.0, le)

transition-timed : (design : Design) (times : List ℕ) (c : Choice) (s : State) → IsKept s → s.cause ≡ None → IsOpen c s.queue → IsTimed times s →
    free_from 0 times ≤ (transition_of design c s).state.queue.time
transition-timed design times (Run p) s kept none active timed =
    omega (
      arith,
      timed.before none (λ idle. absurd (omega (arith, active, ap (count_in p) idle.0))),
      time-process design p (continuation_of (slice_get s.processes p)) s,
    )
transition-timed design times Update s kept none some timed =
    omega (arith, timed.before none (λ idle. some idle.1), time-with_moves (with_woken design s.values None (with_update s)), time-with_update s.queue.activated s.queue)
transition-timed design times Advance s kept none allowed timed =
    omega (
      arith,
      time-advanced times s s.queue.future refl kept allowed.1 timed.within,
      time-with_moves (record s { queue = with_advance s.queue.future s.queue }),
    )

next-timed : (design : Design) (times : List ℕ) (s : State) (i : ℕ) → IsKept s → IsTimed times s → i < length (choices s) →
    IsTimed (times ++ slot_times (items_of design (next design s i))) (next design s i).state
next-timed design times s i kept timed lt =
    let there = listed_place (choices s) i lt in
    let allowed = open_choice s i there.0 kept there.1 in
    subst (λ (o : Option Choice). IsTimed (times ++ slot_times (items_of design (transition_by design s i o))) (transition_by design s i o).state) (sym there.1)
    (timed_transition design times (with_views design s i there.0 (transition_of design there.0 s)) timed.rises
    (transition-timed design times there.0 s kept allowed.0 allowed.1 timed))

-- ---- the run

shorter : (setting : Setting) (log : List (ℕ × ℕ)) (n : ℕ) → IsRun (rules_of setting) log (suc n) → IsRun (rules_of setting) log n
shorter setting log n run = λ k lt. run k (omega (arith, lt))

timed : (setting : Setting) (log : List (ℕ × ℕ)) (n : ℕ) → IsRun (rules_of setting) log n → IsTimed (slot_times (items_after setting log n)) (state_after setting log n)
timed setting log zero run =
    subst (IsTimed (slot_times (items_after setting log 0))) (sym (opening_is setting)) (timed_end [] (opening_of setting) tt (omega arith))
timed setting log (suc n) run =
    let s = state_after setting log n in
    let i = choice_at log n in
    let transition = next setting.design s i in
    subst (λ (ts : List ℕ). IsTimed ts (state_after setting log (suc n))) (sym (slot_times-append (items_after setting log n) (items_of setting.design transition)))
    (subst (IsTimed (slot_times (items_after setting log n) ++ slot_times (items_of setting.design transition))) (sym (after_is setting s i))
    (next-timed setting.design (slot_times (items_after setting log n)) s i (kept setting log n) (timed setting log n (shorter setting log n run))
    (omega (arith, run n (omega arith), width_is setting s))))

pub times_rise : (setting : Setting) (log : List (ℕ × ℕ)) (n : ℕ) → IsRun (rules_of setting) log n → RisesFrom 0 (slot_times (items_after setting log n))
times_rise setting log n run = (timed setting log n run).rises
