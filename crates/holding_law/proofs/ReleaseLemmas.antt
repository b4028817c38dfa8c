-- What a step takes is held back no more, and an advance leaves nobody held back.
use Rattle.std.proofs.Common.{◌≡◌, ℕ, zero, suc, ◌==◌, ◌&&◌, Bool, true, false, cond, map, take, List, [], ◌++◌, length, Option, Some, None, refl, ap, subst, ◌∙◌}
use Rattle.std.specs.Prelude.{slice_get, unwrap_or}
use Rattle.std.specs.Option.{ForSome}
use Rattle.sched_core.specs.Rules.{choice_at}
use Rattle.sched_core.specs.declared.setting.Grain.{Grain}
use Rattle.sched_core.specs.declared.setting.Grain.TheVariants.{Process, Statement}
use Rattle.vdesign.specs.Design.{Design}
use Rattle.vmodel.specs.declared.choice.Choice.{Choice}
use Rattle.vmodel.specs.declared.choice.Choice.TheVariants.{Run, Advance}
use Rattle.vmodel.specs.Queue.{Queue}
use Rattle.vmodel.specs.State.{State}
use Rattle.vmodel.specs.Choices.{in_order, first_update, free_among, active_order, order_by, order_of, choices}
use Rattle.vmodel.specs.Holding.{count_before, with_held, before_choice, held_with, release, held_after}
use Rattle.vmodel.specs.Step.{transition_of, transition_by, next}
use Rattle.vmodel.specs.Run.{Setting, state_after}
use Rattle.vmodel.specs.RunProgress.{after_is}
use Rattle.plain_steps.specs.RunLaws.{IsAlwaysKept}
use Rattle.vmodel.specs.Kept.{AreHeldBack}
use Rattle.vmodel.specs.SlotEnds.{IsIdle}
use Rattle.holding_law.specs.Held.{held_in, IsHeld}
use Rattle.holding_law.proofs.MemberLemmas.{IsIn, contains_in, in_left, none_in}
use Rattle.holding_law.proofs.MayLemmas.{LastIsIn, held_in_active, last_in, may_go}

-- ---- what is taken

released_few : (q : Queue) (held : List ℕ) (r : ℕ) → IsIn r (release q held) → IsIn r held
released_few q held r = by (length (free_among held q.active) == 0 && length q.activated == 0)
  where
    by : (b : Bool) → IsIn r (cond b [] held) → IsIn r held
    by true none = absurd none
    by false some = some

pub taken_none : (o : Option (List ℕ)) (q : Queue) (i p : ℕ) (after : Queue) → IsIn p (unwrap_or (held_after o q i (Run p) after) []) → ⊥
taken_none None q i p after h = h
taken_none (Some held) q i p after h =
    (in_left p p (with_held (before_choice (order_of held q) i) held) (released_few after (held_with held q i (Run p)) p h)).0 refl

taken : (design : Design) (s : State) (i p : ℕ) → slice_get (choices s) i ≡ Some (Run p) → IsHeld (next design s i).state p → ⊥
taken design s i p is held =
    taken_none s.held_back s.queue i p (transition_of design (Run p) s).state.queue
    (subst (λ (o : Option Choice). IsIn p (unwrap_or (transition_by design s i o).state.held_back [])) is
    (contains_in p (held_in (next design s i).state) held))

pub taken_released : (setting : Setting) (log : List (ℕ × ℕ)) (n p : ℕ) →
    slice_get (choices (state_after setting log n)) (choice_at log n) ≡ Some (Run p) → IsHeld (state_after setting log (suc n)) p → ⊥
taken_released setting log n p is held =
    let s = state_after setting log n in
    taken setting.design s (choice_at log n) p is (subst (λ (x : State). IsHeld x p) (after_is setting s (choice_at log n)) held)

-- ---- an advance

idle_order : (held : List ℕ) (q : Queue) → q.last ≡ None → held ≡ [] → IsIdle q → active_order held q ≡ []
idle_order held q nobody none idle = λ k. (map Run (in_order (nobody k) (free_among (none k) (idle.0 k))) ++ first_update (idle.1 k)) ++ map Run (none k)

-- where nothing is active, no process can be the one that made the last step
no_last : (q : Queue) (p : ℕ) → q.last ≡ Some p → IsIdle q → LastIsIn q → ⊥
no_last q p is idle lasts = subst (IsIn p) idle.0 (lasts p is)

idle_by : (held : List ℕ) (q : Queue) (grain : Grain) (last : Option ℕ) → q.last ≡ last → held ≡ [] → IsIdle q → LastIsIn q →
    order_by held q grain last ≡ []
idle_by held q Process (Some p) is none idle lasts = absurd (no_last q p is idle lasts)
idle_by held q Process None is none idle lasts = idle_order held q is none idle
idle_by held q Statement (Some p) is none idle lasts = absurd (no_last q p is idle lasts)
idle_by held q Statement None is none idle lasts = idle_order held q is none idle

front_none : (n : ℕ) (held : List ℕ) → with_held (take n []) held ≡ held
front_none zero held = refl
front_none (suc n) held = refl

advance_none : (o : Option (List ℕ)) (q : Queue) (i : ℕ) (after : Queue) → IsIdle q → LastIsIn q → ForSome o (AreHeldBack q) →
    unwrap_or (held_after o q i Advance after) [] ≡ []
advance_none None q i after idle lasts are = refl
advance_none (Some held) q i after idle lasts are =
    ap (λ (order : List Choice). release after (with_held (take (count_before (length order) i) order) held)) (idle_by held q q.grain q.last refl nobody idle lasts)
    ∙ ap (release after) (front_none (count_before 0 i) held ∙ nobody)
    ∙ either (length (free_among empty after.active) == 0 && length after.activated == 0)
  where
    empty : List ℕ
    empty = []

    nobody : held ≡ empty
    nobody = none_in held (λ p h. subst (IsIn p) idle.0 (held_in_active q held (are held refl) p h))

    either : (b : Bool) → cond b empty empty ≡ empty
    either true = refl
    either false = refl

pub advance_releases : IsAlwaysKept → (setting : Setting) (log : List (ℕ × ℕ)) (n : ℕ) →
    slice_get (choices (state_after setting log n)) (choice_at log n) ≡ Some Advance → held_in (state_after setting log (suc n)) ≡ []
advance_releases keeps setting log n is =
    let s = state_after setting log n in
    let i = choice_at log n in
    let kept = keeps setting log n in
    ap held_in (after_is setting s i)
    ∙ ap (λ (o : Option Choice). held_in (transition_by setting.design s i o).state) is
    ∙ advance_none s.held_back s.queue i (transition_of setting.design Advance s).state.queue (may_go s i Advance kept is).1.0 (last_in s kept) kept.held
