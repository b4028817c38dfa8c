-- *internal*: The rules of a run are lawful (a law with its proof).
use Rattle.std.proofs.Common.{◌≡◌, ℕ, ◌==◌, Bool, true, if◌then◌else◌, ◌&&◌, ◌||◌, is_some, List, [], ◌∷◌, ◌++◌, map, Option, Some, None, length, refl, ap, subst, arith}
use Rattle.sched_core.specs.Rules.{IsLawful}
use Rattle.vmodel.specs.declared.choice.Choice.{Choice}
use Rattle.vmodel.specs.declared.choice.Choice.TheVariants.{Run}
use Rattle.sched_core.specs.declared.end.Cause.{Cause}
use Rattle.sched_core.specs.declared.setting.Grain.{Grain}
use Rattle.sched_core.specs.declared.setting.Grain.TheVariants.{Process, Statement}
use Rattle.vmodel.specs.declared.part.Part.{Part}
use Rattle.vmodel.specs.Queue.{Later, Queue}
use Rattle.vmodel.specs.State.{State}
use Rattle.vmodel.specs.Choices.{in_order, first_update, or_advance, active_choices, offered_choices, free_among, active_order, order_by, order_of, taking_or_holding, choices_by, choices}
use Rattle.vmodel.specs.Step.{next}
use Rattle.vmodel.specs.Same.{state_same}
use Rattle.vmodel.specs.Run.{Setting, rules_of, is_mark}
use Rattle.vmodel.specs.SlotEnds.{IsIdle}
use Rattle.vmodel.specs.SameLaws.{states_tell}

-- where nothing is offered nothing is active
nothing_active : (last : Option ℕ) (active : List ℕ) (us : List (List Part)) → length (map Run (in_order last active) ++ first_update us) ≡ 0 →
    (active ≡ []) × (us ≡ [])
nothing_active None [] [] h = (refl, refl)
nothing_active None [] (u ∷ us) h = absurd (omega arith)
nothing_active None (p ∷ ps) us h = absurd (omega arith)
nothing_active (Some p) active us h = absurd (omega arith)

nothing_offered : (q : Queue) (grain : Grain) (last : Option ℕ) → length (offered_choices q grain last) ≡ 0 → length (active_choices q) ≡ 0
nothing_offered q Process (Some p) h = absurd (omega arith)
nothing_offered q Process None h = h
nothing_offered q Statement last h = h

-- nor where what may be taken in order, and then what is held back, is nothing
none_in_front : (cs : List Choice) (held : List ℕ) → length (cs ++ map Run held) ≡ 0 → (held ≡ []) × (length cs ≡ 0)
none_in_front [] [] h = (refl, refl)
none_in_front [] (p ∷ held) h = absurd (omega arith)
none_in_front (c ∷ cs) held h = absurd (omega arith)

active_none : (held : List ℕ) (q : Queue) → length (active_order held q) ≡ 0 → IsIdle q
active_none held q h =
    let none = none_in_front (active_choices (record q { active = free_among held q.active })) held h in
    nothing_active q.last q.active q.activated
    (subst (λ (ps : List ℕ). length (active_choices (record q { active = free_among ps q.active })) ≡ 0) none.0 none.1)

order_none : (held : List ℕ) (q : Queue) (grain : Grain) (last : Option ℕ) → length (order_by held q grain last) ≡ 0 → IsIdle q
order_none held q Process (Some p) h = absurd (omega arith)
order_none held q Process None h = active_none held q h
order_none held q Statement last h = active_none held q h

pub idle_when_ordered : (held : List ℕ) (q : Queue) → length (taking_or_holding (order_of held q)) ≡ 0 → IsIdle q
idle_when_ordered held q h = order_none held q q.grain q.last (front_none (order_of held q) h)
  where
    front_none : (order : List Choice) → length (taking_or_holding order) ≡ 0 → length order ≡ 0
    front_none [] h = refl
    front_none (c ∷ cs) h = absurd (omega arith)

pub idle_when : (q : Queue) → length (offered_choices q q.grain q.last) ≡ 0 → IsIdle q
idle_when q h = nothing_active q.last q.active q.activated (nothing_offered q q.grain q.last h)

no_advance : (cs : List Choice) (future : List (ℕ × Later)) → length (or_advance cs future) ≡ 0 → length cs ≡ 0
no_advance [] future h = refl
no_advance (c ∷ cs) future h = h

ended_or : (cause : Option Cause) (cs : List Choice) (b : Bool) → length (if is_some cause then [] else cs) ≡ 0 → (length cs ≡ 0 → b ≡ true) →
    (is_some cause || b) ≡ true
ended_or None cs b h otherwise = otherwise h
ended_or (Some cause) cs b h otherwise = refl

-- a state without a choice is a mark
pub end_is_mark : (s : State) → length (choices s) ≡ 0 → is_mark s ≡ true
end_is_mark s h =
    let q = s.queue in
    ended_or s.cause (choices_by s.held_back q) (length q.active == 0 && length q.activated == 0) h
    (λ none. let idle = idle_where s.held_back q none in rw (idle.0, idle.1) refl)
  where
    idle_where : (held : Option (List ℕ)) (q : Queue) → length (choices_by held q) ≡ 0 → IsIdle q
    idle_where None q none = idle_when q (no_advance (offered_choices q q.grain q.last) q.future none)
    idle_where (Some held) q none = idle_when_ordered held q (no_advance (taking_or_holding (order_of held q)) q.future none)

pub lawful : (setting : Setting) → IsLawful (rules_of setting)
unfolding rules_of
lawful setting = record {
  reflexive = itself;
  symmetric = λ s t h. subst (λ (u : State). state_same u s ≡ true) (is s t h) (itself s);
  transitive = λ s t u h k. subst (λ (v : State). state_same s v ≡ true) (is t u k) h;
  width_same = λ s t h. ap (λ (u : State). length (choices u)) (is s t h);
  mark_same = λ s t h. ap is_mark (is s t h);
  after_same = λ s t i h lt. subst (λ (u : State). state_same (next setting.design s i).state (next setting.design u i).state ≡ true) (is s t h) (itself (next setting.design s i).state);
  end_is_mark = end_is_mark;
}
  where
    is : (s t : State) → state_same s t ≡ true → s ≡ t
    is s t = (states_tell s t).0

    itself : (s : State) → state_same s s ≡ true
    itself s = (states_tell s s).1 refl
