-- The slot ends of a history are the slot ends that its run was at.
use Rattle.std.proofs.Common.{◌≡◌, ◌⊎◌, inl, inr, ℕ, zero, suc, ◌≤◌, List, [], ◌∷◌, Option, Some, None, refl, sym, ap, subst, ◌∙◌, arith}
use Rattle.std.specs.List.{Contains}
use Rattle.std.proofs.lemmas.Bool.{cases_lt}
use Rattle.std.proofs.lemmas.List.Elements.{Contains-append_left, Contains-append_right, Contains-append_cases}
use Rattle.sched_core.specs.Rules.{choice_at}
use Rattle.vbits.specs.Vectors.{Vector}
use Rattle.sched_core.specs.declared.end.Cause.{Cause}
use Rattle.vdesign.specs.Design.{Design}
use Rattle.vmodel.specs.declared.history.Item.{Item}
use Rattle.vmodel.specs.declared.history.Item.TheVariants.{SlotEnd, Dump, Monitor}
use Rattle.vmodel.specs.declared.effect.Shown.{Shown}
use Rattle.vmodel.specs.declared.effect.Shown.TheVariants.{Commands, Prints, Watches}
use Rattle.vmodel.specs.declared.part.Part.{Part}
use Rattle.vmodel.specs.State.{State}
use Rattle.vmodel.specs.Step.{Transition, next, line_item, shown_items, idle_items, slot_end_by, slot_end_of, strobe_items, before_end, end_items, items_of}
use Rattle.vmodel.specs.Run.{Setting, opening_of, state_after, items_after}
use Rattle.vmodel.specs.RunProgress.{opening_is, after_is}
use Rattle.vmodel.specs.Kept.{HasSlotEnd}
use Rattle.vmodel.specs.SlotEnds.{IsSlotEnd}

-- ---- of one state

no_item : (item : Item) → Contains [] item → ⊥
no_item item h = absurd (omega (arith, h.1))

one_item : (x item : Item) → Contains (x ∷ []) item → x ≡ item
one_item x item (zero, lt, is) = is
one_item x item (suc k, lt, is) = absurd (omega (arith, lt))

end_parts : (t u : ℕ) (v w : List Vector) → SlotEnd t v ≡ SlotEnd u w → (t ≡ u) × (v ≡ w)
end_parts t u v w h = (cc, cc)

pub end_of_items : (s : State) (time : ℕ) (values : List Vector) → Contains (slot_end_of s) (SlotEnd time values) → IsSlotEnd time values s
end_of_items s time values = by_cause s.cause refl
  where
    by_idle : s.cause ≡ None → (active : List ℕ) (activated : List (List Part)) → s.queue.active ≡ active → s.queue.activated ≡ activated →
        Contains (idle_items active activated s.queue.time s.values) (SlotEnd time values) → IsSlotEnd time values s
    by_idle on [] [] a b h =
        let same = end_parts s.queue.time time s.values values (one_item (SlotEnd s.queue.time s.values) (SlotEnd time values) h) in
        record { goes_on = on; idle = (a, b); time_is = same.0; values_are = same.1 }
    by_idle on [] (u ∷ us) a b h = absurd (no_item (SlotEnd time values) h)
    by_idle on (p ∷ ps) us a b h = absurd (no_item (SlotEnd time values) h)

    by_cause : (cause : Option Cause) → s.cause ≡ cause → Contains (slot_end_by cause s) (SlotEnd time values) → IsSlotEnd time values s
    by_cause (Some cause) is h = absurd (no_item (SlotEnd time values) h)
    by_cause None is h = by_idle is s.queue.active s.queue.activated refl refl h

pub items_of_end : (s : State) (time : ℕ) (values : List Vector) → IsSlotEnd time values s → Contains (slot_end_of s) (SlotEnd time values)
items_of_end s time values end =
    subst (λ (items : List Item). Contains items (SlotEnd time values)) (sym given) (0, omega arith, refl)
  where
    given : slot_end_of s ≡ SlotEnd time values ∷ []
    given = rw (end.goes_on, end.idle.0, end.idle.1) (λ i. SlotEnd (end.time_is i) (end.values_are i) ∷ [])

no_shown : (design : Design) (s : State) (shown : Option Shown) (time : ℕ) (values : List Vector) →
    Contains (shown_items design s shown) (SlotEnd time values) → ⊥
no_shown design s None time values h = no_item (SlotEnd time values) h
no_shown design s (Some (Commands command)) time values h =
    let clash : Dump command ≡ SlotEnd time values = one_item (Dump command) (SlotEnd time values) h in cc
no_shown design s (Some (Prints place)) time values h =
    let clash : line_item design s place ≡ SlotEnd time values = one_item (line_item design s place) (SlotEnd time values) h in cc
no_shown design s (Some (Watches place)) time values h =
    let clash : Monitor place ≡ SlotEnd time values = one_item (Monitor place) (SlotEnd time values) h in cc

no_strobe : (design : Design) (s : State) (places : List ℕ) (time : ℕ) (values : List Vector) →
    Contains (strobe_items design s places) (SlotEnd time values) → ⊥
no_strobe design s [] time values h = no_item (SlotEnd time values) h
no_strobe design s (place ∷ places) time values (zero, lt, is) =
    let clash : line_item design s place ≡ SlotEnd time values = is in cc
no_strobe design s (place ∷ places) time values (suc k, lt, is) = no_strobe design s places time values (k, omega (arith, lt), is)

before_cases : (strobes ends : List Item) (item : Item) → Contains (before_end strobes ends) item → Contains strobes item ⊎ Contains ends item
before_cases strobes [] item h = inr h
before_cases strobes (end ∷ ends) item h = Contains-append_cases strobes (end ∷ ends) item h

before_right : (strobes ends : List Item) (item : Item) → Contains ends item → Contains (before_end strobes ends) item
before_right strobes [] item h = h
before_right strobes (end ∷ ends) item h = Contains-append_right strobes (end ∷ ends) item h

end_of_end : (design : Design) (s : State) (monitors : List ℕ) (time : ℕ) (values : List Vector) → Contains (end_items design s monitors) (SlotEnd time values) →
    IsSlotEnd time values s
end_of_end design s monitors time values h =
    elim (before_cases (strobe_items design s monitors) (slot_end_of s) (SlotEnd time values) h) [
      | inl front ↦ absurd (no_strobe design s monitors time values front)
      | inr behind ↦ end_of_items s time values behind
    ]

end_of_transition : (design : Design) (transition : Transition) (time : ℕ) (values : List Vector) → Contains (items_of design transition) (SlotEnd time values) →
    IsSlotEnd time values transition.state
end_of_transition design transition time values h =
    elim (Contains-append_cases (shown_items design transition.state transition.effect.shown) (end_items design transition.state transition.monitors) (SlotEnd time values) h) [
      | inl front ↦ absurd (no_shown design transition.state transition.effect.shown time values front)
      | inr behind ↦ end_of_end design transition.state transition.monitors time values behind
    ]

-- ---- of a run

pub shown_end : (setting : Setting) (log : List (ℕ × ℕ)) (n time : ℕ) (values : List Vector) →
    Contains (items_after setting log n) (SlotEnd time values) → HasSlotEnd setting log n time values
shown_end setting log zero time values h =
    (0, omega arith, subst (IsSlotEnd time values) (sym (opening_is setting)) (end_of_items (opening_of setting) time values h))
shown_end setting log (suc n) time values h =
    let s = state_after setting log n in
    let transition = next setting.design s (choice_at log n) in
    elim (Contains-append_cases (items_after setting log n) (items_of setting.design transition) (SlotEnd time values) h) [
      | inl before ↦ (let there = shown_end setting log n time values before in (there.0, omega (arith, there.1), there.2))
      | inr now ↦ (suc n, omega arith, subst (IsSlotEnd time values) (sym (after_is setting s (choice_at log n))) (end_of_transition setting.design transition time values now))
    ]

pub end_shown : (setting : Setting) (log : List (ℕ × ℕ)) (n time : ℕ) (values : List Vector) →
    HasSlotEnd setting log n time values → Contains (items_after setting log n) (SlotEnd time values)
end_shown setting log zero time values (k, le, end) =
    let first : k ≡ 0 = omega (arith, le) in
    items_of_end (opening_of setting) time values (subst (IsSlotEnd time values) (ap (state_after setting log) first ∙ opening_is setting) end)
end_shown setting log (suc n) time values (k, le, end) =
    let s = state_after setting log n in
    let transition = next setting.design s (choice_at log n) in
    elim (last_or k n le) [
      | inl before ↦ Contains-append_left (items_after setting log n) (items_of setting.design transition) (SlotEnd time values)
          (end_shown setting log n time values (k, before, end))
      | inr now ↦ Contains-append_right (items_after setting log n) (items_of setting.design transition) (SlotEnd time values)
          (Contains-append_right (shown_items setting.design transition.state transition.effect.shown) (end_items setting.design transition.state transition.monitors) (SlotEnd time values)
          (before_right (strobe_items setting.design transition.state transition.monitors) (slot_end_of transition.state) (SlotEnd time values)
          (items_of_end transition.state time values
          (subst (IsSlotEnd time values) (ap (state_after setting log) now ∙ after_is setting s (choice_at log n)) end))))
    ]
  where
    last_or : (k n : ℕ) → k ≤ suc n → (k ≤ n) ⊎ (k ≡ suc n)
    last_or k n le = elim (cases_lt n k) [ inl more ↦ inr (omega (arith, le, more)) | inr less ↦ inl (omega (arith, less)) ]
