-- Where slots end, and what time it is meanwhile.
use Rattle.std.proofs.Common.{◌≡◌, ℕ, suc, ◌<◌, ◌≤◌, ◌==◌, ◌&&◌, ◌||◌, is_some, true, false, List, [], ◌∷◌, length, Option, Some, None, refl, sym, ap, subst, ◌∙◌, arith}
use Rattle.std.specs.Prelude.{slice_get}
use Rattle.std.specs.Option.{ForSome}
use Rattle.basis.proofs.Lists.{listed_place}
use Rattle.sched_core.specs.Rules.{choice_at, IsRun}
use Rattle.sched_core.specs.declared.end.Cause.{Cause}
use Rattle.sched_core.specs.declared.setting.Grain.{Grain}
use Rattle.sched_core.specs.declared.setting.Grain.TheVariants.{Process, Statement}
use Rattle.vdesign.specs.Design.{Design}
use Rattle.vmodel.specs.declared.part.Part.{Part}
use Rattle.vmodel.specs.declared.choice.Choice.{Choice}
use Rattle.vmodel.specs.declared.choice.Choice.TheVariants.{Run, Update, Advance}
use Rattle.vmodel.specs.Queue.{Later, Queue}
use Rattle.vmodel.specs.State.{State}
use Rattle.vmodel.specs.Choices.{advance_choice, or_advance, offered_choices, order_by, order_of, taking_or_holding, choices_by, choices}
use Rattle.vmodel.specs.Step.{continuation_of, with_woken, with_update, with_advance, transition_of, transition_by, next}
use Rattle.vmodel.specs.Run.{Setting, rules_of, is_mark, state_after}
use Rattle.vmodel.specs.RunProgress.{after_is, width_is}
use Rattle.vmodel.specs.Kept.{count_in, AreHeldBack, IsKept}
use Rattle.vmodel.specs.SlotEnds.{IsIdle}
use Rattle.vmodel.proofs.PlaceLemmas.{count-self}
use Rattle.vmodel.proofs.MovedLemmas.{LastIsActive}
use Rattle.vmodel.proofs.OpenLemmas.{IsOpen, open_choice}
use Rattle.vmodel.proofs.KeptLemmas.{kept}
use Rattle.vmodel.proofs.TimesLemmas.{time-process, time-with_moves, time-with_update}

-- ---- marks

idle_lists : (active : List ℕ) (activated : List (List Part)) → (length active == 0 && length activated == 0) ≡ true → (active ≡ []) × (activated ≡ [])
idle_lists [] [] h = (refl, refl)
idle_lists [] (u ∷ us) h = absurd (grind arith)
idle_lists (p ∷ ps) us h = absurd (grind arith)

-- a mark of a run that goes on is idle
idle_at_mark : (s : State) → s.cause ≡ None → is_mark s ≡ true → IsIdle s.queue
idle_at_mark s none mark =
    idle_lists s.queue.active s.queue.activated
    (subst (λ (cause : Option Cause). (is_some cause || (length s.queue.active == 0 && length s.queue.activated == 0)) ≡ true) none mark)

lists_idle : (cause : Option Cause) (active : List ℕ) (activated : List (List Part)) → active ≡ [] → activated ≡ [] →
    (is_some cause || (length active == 0 && length activated == 0)) ≡ true
lists_idle (Some cause) active activated a b = refl
lists_idle None [] [] a b = refl
lists_idle None [] (u ∷ us) a b = cc
lists_idle None (p ∷ ps) us a b = cc

mark_at_idle : (s : State) → IsIdle s.queue → is_mark s ≡ true
mark_at_idle s idle = lists_idle s.cause s.queue.active s.queue.activated idle.0 idle.1

-- ---- the choices of an idle queue

advance_alone : (future : List (ℕ × Later)) → length (advance_choice future) ≤ 1
advance_alone [] = omega arith
advance_alone (e ∷ es) = omega arith

no_last : (q : Queue) (p : ℕ) → LastIsActive q → q.active ≡ [] → ¬ (q.last ≡ Some p)
no_last q p lasts idle is = absurd (omega (arith, lasts p is, ap (count_in p) idle))

none_offered : (q : Queue) (grain : Grain) (last : Option ℕ) → q.last ≡ last → LastIsActive q → IsIdle q → offered_choices q grain last ≡ []
none_offered q Process (Some p) is lasts idle = absurd (no_last q p lasts idle.0 is)
none_offered q Process None is lasts idle = rw (is, idle.0, idle.1) refl
none_offered q Statement (Some p) is lasts idle = absurd (no_last q p lasts idle.0 is)
none_offered q Statement None is lasts idle = rw (is, idle.0, idle.1) refl

none_held : (q : Queue) (held : List ℕ) → AreHeldBack q held → q.active ≡ [] → held ≡ []
none_held q [] are idle = refl
none_held q (p ∷ held) are idle = absurd (omega (arith, are.active p, count-self p held, ap (count_in p) idle))

none_ordered : (q : Queue) (grain : Grain) (last : Option ℕ) → q.last ≡ last → LastIsActive q → IsIdle q → order_by [] q grain last ≡ []
none_ordered q Process (Some p) is lasts idle = absurd (no_last q p lasts idle.0 is)
none_ordered q Process None is lasts idle = rw (is, idle.0, idle.1) refl
none_ordered q Statement (Some p) is lasts idle = absurd (no_last q p lasts idle.0 is)
none_ordered q Statement None is lasts idle = rw (is, idle.0, idle.1) refl

few_by : (held : Option (List ℕ)) (q : Queue) → LastIsActive q → ForSome held (AreHeldBack q) → IsIdle q → length (choices_by held q) ≤ 1
few_by None q lasts are idle =
    subst (λ (cs : List Choice). length (or_advance cs q.future) ≤ 1) (sym (none_offered q q.grain q.last refl lasts idle)) (advance_alone q.future)
few_by (Some held) q lasts are idle =
    subst (λ (ps : List ℕ). length (or_advance (taking_or_holding (order_of ps q)) q.future) ≤ 1) (sym (none_held q held (are held refl) idle.0))
    (subst (λ (order : List Choice). length (or_advance (taking_or_holding order) q.future) ≤ 1)
    (sym (none_ordered q q.grain q.last refl lasts idle)) (advance_alone q.future))

few_at_mark : (s : State) → IsKept s → is_mark s ≡ true → length (choices s) ≤ 1
few_at_mark s kept mark = by_cause s.cause refl
  where
    by_cause : (cause : Option Cause) → s.cause ≡ cause → length (choices s) ≤ 1
    by_cause (Some cause) is = rw is (omega arith)
    by_cause None is = let few = few_by s.held_back s.queue kept.place.last kept.held (idle_at_mark s is mark) in rw is few

-- ---- the time after a step

sooner : (s : State) (future : List (ℕ × Later)) → s.queue.future ≡ future → IsKept s → ¬ (future ≡ []) →
    s.queue.time < (with_advance future s.queue).time
sooner s [] is kept some = absurd (some refl)
sooner s (e ∷ es) is kept some =
    let h = rw is at kept.order.future in omega (arith, h.0)

later_at_mark : (design : Design) (c : Choice) (s : State) → IsKept s → IsIdle s.queue → IsOpen c s.queue →
    s.queue.time < (transition_of design c s).state.queue.time
later_at_mark design (Run p) s kept idle active = absurd (omega (arith, active, ap (count_in p) idle.0))
later_at_mark design Update s kept idle some = absurd (some idle.1)
later_at_mark design Advance s kept idle allowed =
    omega (
      arith,
      sooner s s.queue.future refl kept allowed.1,
      time-with_moves (record s { queue = with_advance s.queue.future s.queue }),
    )

same_within : (design : Design) (c : Choice) (s : State) → is_mark s ≡ false → IsOpen c s.queue →
    (transition_of design c s).state.queue.time ≡ s.queue.time
same_within design (Run p) s busy active = time-process design p (continuation_of (slice_get s.processes p)) s
same_within design Update s busy some =
    time-with_moves (with_woken design s.values None (with_update s)) ∙ time-with_update s.queue.activated s.queue
same_within design Advance s busy allowed = let mark = mark_at_idle s allowed.0 in cc

-- ---- the run

pub goes_on_one_way : (setting : Setting) (log : List (ℕ × ℕ)) (n : ℕ) → is_mark (state_after setting log n) ≡ true →
    length (choices (state_after setting log n)) ≤ 1
goes_on_one_way setting log n mark = few_at_mark (state_after setting log n) (kept setting log n) mark

next-later : (design : Design) (s : State) (i : ℕ) → IsKept s → is_mark s ≡ true → i < length (choices s) →
    s.queue.time < (next design s i).state.queue.time
next-later design s i kept mark lt =
    let there = listed_place (choices s) i lt in
    let allowed = open_choice s i there.0 kept there.1 in
    subst (λ (o : Option Choice). s.queue.time < (transition_by design s i o).state.queue.time) (sym there.1)
    (later_at_mark design there.0 s kept (idle_at_mark s allowed.0 mark) allowed.1)

next-same : (design : Design) (s : State) (i : ℕ) → IsKept s → is_mark s ≡ false → i < length (choices s) →
    (next design s i).state.queue.time ≡ s.queue.time
next-same design s i kept busy lt =
    let there = listed_place (choices s) i lt in
    let allowed = open_choice s i there.0 kept there.1 in
    subst (λ (o : Option Choice). (transition_by design s i o).state.queue.time ≡ s.queue.time) (sym there.1)
    (same_within design there.0 s busy allowed.1)

pub goes_on_later : (setting : Setting) (log : List (ℕ × ℕ)) (n : ℕ) → IsRun (rules_of setting) log (suc n) → is_mark (state_after setting log n) ≡ true →
    (state_after setting log n).queue.time < (state_after setting log (suc n)).queue.time
goes_on_later setting log n run mark =
    let s = state_after setting log n in
    let i = choice_at log n in
    subst (λ (t : State). s.queue.time < t.queue.time) (sym (after_is setting s i))
    (next-later setting.design s i (kept setting log n) mark (omega (arith, run n (omega arith), width_is setting s)))

pub stays_in_slot : (setting : Setting) (log : List (ℕ × ℕ)) (n : ℕ) → IsRun (rules_of setting) log (suc n) → is_mark (state_after setting log n) ≡ false →
    (state_after setting log (suc n)).queue.time ≡ (state_after setting log n).queue.time
stays_in_slot setting log n run busy =
    let s = state_after setting log n in
    let i = choice_at log n in
    subst (λ (t : State). t.queue.time ≡ s.queue.time) (sym (after_is setting s i))
    (next-same setting.design s i (kept setting log n) busy (omega (arith, run n (omega arith), width_is setting s)))
