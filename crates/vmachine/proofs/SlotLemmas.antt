-- Items cut behind each slot's end, and what is handed on at marks.
use Rattle.std.proofs.Common.{◌≡◌, ◌≢◌, ◌⊎◌, ℕ, ◌==◌, ◌&&◌, ◌||◌, is_some, Bool, true, false, if◌then◌else◌, List, [], ◌∷◌, ◌++◌, length, Option, Some, None, refl, inl, inr, sym, ap, subst, ◌∙◌, append_assoc, append-nil, arith}
use Rattle.vbits.specs.Vectors.{Vector}
use Rattle.vdesign.specs.Design.{Design}
use Rattle.sched_core.specs.declared.end.Cause.{Cause}
use Rattle.vmodel.specs.declared.history.Item.{Item}
use Rattle.vmodel.specs.declared.history.Item.TheVariants.{SlotEnd}
use Rattle.vmodel.specs.State.{State}
use Rattle.vmodel.specs.Choices.{choices, choices_by}
use Rattle.vmodel.specs.Step.{Transition, slot_end_by, slot_end_of, items_of}
use Rattle.vmodel.specs.Touched.{ends_slot, HasNoSlotEnd, front_items}
use Rattle.vmodel.proofs.TouchedLemmas.{idle, not_idle, no_end_in_both, front_and_end, no_end_in_front}
use Rattle.vmodel.specs.Run.{is_mark}
use Rattle.vmachine.specs.Handed.{in_first, by_slot, TakesEach}
use Rattle.vmachine.specs.Inner.{HandsOn}
use Rattle.vmachine.specs.Runs.{IsCut, Waits}

-- ---- how items are cut

within : (x : Item) (xs : List Item) → ends_slot x ≡ false → by_slot (x ∷ xs) ≡ in_first x (by_slot xs)
within x xs h = ap (λ (b : Bool). if b then (x ∷ []) ∷ by_slot xs else in_first x (by_slot xs)) h

behind_end : (front : List Item) (time : ℕ) (values : List Vector) (more : List Item) → HasNoSlotEnd front →
    by_slot (front ++ SlotEnd time values ∷ more) ≡ (front ++ SlotEnd time values ∷ []) ∷ by_slot more
behind_end [] time values more h = refl
behind_end (x ∷ xs) time values more h =
    within x (xs ++ SlotEnd time values ∷ more) h.0 ∙ ap (in_first x) (behind_end xs time values more h.1)

without_end : (x : Item) (xs : List Item) → HasNoSlotEnd (x ∷ xs) → by_slot (x ∷ xs) ≡ (x ∷ xs) ∷ []
without_end x [] h = within x [] h.0
without_end x (y ∷ ys) h = within x (y ∷ ys) h.0 ∙ ap (in_first x) (without_end y ys h.1)

cut_behind : (handed front : List Item) (time : ℕ) (values : List Vector) → IsCut handed → HasNoSlotEnd front →
    IsCut (handed ++ (front ++ SlotEnd time values ∷ []))
cut_behind handed front time values cut no_end more =
    let end : List Item = SlotEnd time values ∷ [] in
    let whole : by_slot ((handed ++ (front ++ end)) ++ more) ≡ by_slot handed ++ ((front ++ end) ∷ by_slot more) =
    ap by_slot (append_assoc handed (front ++ end) more ∙ ap (λ (xs : List Item). handed ++ xs) (append_assoc front end more))
    ∙ cut (front ++ SlotEnd time values ∷ more)
    ∙ ap (λ (slots : List (List Item)). by_slot handed ++ slots) (behind_end front time values more no_end) in
    let parts : by_slot (handed ++ (front ++ end)) ++ by_slot more ≡ by_slot handed ++ ((front ++ end) ∷ by_slot more) =
    ap (λ (slots : List (List Item)). slots ++ by_slot more)
    (cut (front ++ end) ∙ ap (λ (slots : List (List Item)). by_slot handed ++ slots) (behind_end front time values [] no_end))
    ∙ append_assoc (by_slot handed) ((front ++ end) ∷ []) (by_slot more) in
    whole ∙ sym parts

takes_one_more : {T : Type 0} (takes : T → List Item → T → Type 0) (slots : List (List Item)) (last : List Item) (old between new : T) →
    TakesEach takes old slots between → takes between last new → TakesEach takes old (slots ++ last ∷ []) new
takes_one_more takes [] last old between new same took = (new, subst (λ t. takes t last new) same took, refl)
takes_one_more takes (slot ∷ slots) last old between new (first, begun, rest) took =
    (first, begun, takes_one_more takes slots last first between new rest took)

-- ---- what stands at a mark

ends_none : (cause : Option Cause) (s : State) → (is_some cause || (length s.queue.active == 0 && length s.queue.activated == 0)) ≡ false →
    slot_end_by cause s ≡ []
ends_none (Some cause) s e = refl
ends_none None s e = not_idle s.queue.active s.queue.activated s.queue.time s.values e

-- the run is over, or a slot has ended
ends_one : (cause : Option Cause) (s : State) → (is_some cause || (length s.queue.active == 0 && length s.queue.activated == 0)) ≡ true →
    ((is_some cause ≡ true) × (slot_end_by cause s ≡ [])) ⊎ (slot_end_by cause s ≡ SlotEnd s.queue.time s.values ∷ [])
ends_one (Some cause) s e = inl (refl, refl)
ends_one None s e = inr (idle s.queue.active s.queue.activated s.queue.time s.values e)

over : (s : State) → is_some s.cause ≡ true → length (choices s) ≡ 0
over s e = ap (λ (b : Bool). length (if b then [] else choices_by s.held_back s.queue)) e

-- ---- what is pending

pub waits_more : (xs ys : List Item) (s : State) → HasNoSlotEnd xs → Waits ys s → Waits (xs ++ ys) s
waits_more xs ys s no_end (front, no_end_too, is) = (
  xs ++ front,
  no_end_in_both xs front no_end no_end_too,
  ap (λ (zs : List Item). xs ++ zs) is ∙ sym (append_assoc xs front (slot_end_of s)),
)

pub items_wait : (design : Design) (transition : Transition) → Waits (items_of design transition) transition.state
items_wait design transition = (front_items design transition, no_end_in_front design transition, front_and_end design transition)

-- ---- handing on

pub emptied : {T : Type 0} (takes : T → List Item → T → Type 0) (mark : Bool) (old new : T) (waiting left : List Item) →
    mark ≡ true → HandsOn takes mark old waiting new left → left ≡ []
emptied takes false old new waiting left e on = absurd (grind arith)
emptied takes true old new [] left e on = on.1
emptied takes true old new (item ∷ more) left e on = on.1

-- what was handed on so far, one slot after another, is all but what is left
pub record IsHandedOn {T : Type 0} (takes : T → List Item → T → Type 0) (s : State) (old new : T) (all left : List Item) : Type 0 where
  pub handed : List Item
  pub is : handed ++ left ≡ all
  pub taken : takes old handed new
  pub each : TakesEach takes old (by_slot handed) new
  pub cut : length (choices s) ≢ 0 → IsCut handed
  pub no_end : length (choices s) ≢ 0 → HasNoSlotEnd left

module _ {T : Type 0} (takes : T → List Item → T → Type 0) (joins : (s t u : T) (xs ys : List Item) → takes s xs t → takes t ys u → takes s (xs ++ ys) u)
    (s : State) (old sink new : T) (handed left : List Item)
    (taken : takes old handed sink) (each : TakesEach takes old (by_slot handed) sink) (cut : IsCut handed) where
  stays : (waiting : List Item) → new ≡ sink → left ≡ waiting → HasNoSlotEnd left → IsHandedOn takes s old new (handed ++ waiting) left
  stays waiting same kept no_end = record {
    handed = handed;
    is = ap (λ (xs : List Item). handed ++ xs) kept;
    taken = subst (takes old handed) (sym same) taken;
    each = subst (TakesEach takes old (by_slot handed)) (sym same) each;
    cut = λ goes_on. cut;
    no_end = λ goes_on. no_end;
  }

  goes : (waiting : List Item) → by_slot waiting ≡ waiting ∷ [] → takes sink waiting new → left ≡ [] →
      (length (choices s) ≢ 0 → IsCut (handed ++ waiting)) → IsHandedOn takes s old new (handed ++ waiting) left
  goes waiting one took nothing cut_too = record {
    handed = handed ++ waiting;
    is = ap (λ (xs : List Item). (handed ++ waiting) ++ xs) nothing ∙ append-nil (handed ++ waiting);
    taken = joins old sink new handed waiting taken took;
    each = subst (λ (slots : List (List Item)). TakesEach takes old slots new) (sym (cut waiting ∙ ap (λ (slots : List (List Item)). by_slot handed ++ slots) one))
        (takes_one_more takes (by_slot handed) waiting old sink new each took);
    cut = cut_too;
    no_end = λ goes_on. subst HasNoSlotEnd (sym nothing) tt;
  }

  at_end : (x : Item) (xs : List Item) → Waits (x ∷ xs) s → takes sink (x ∷ xs) new → left ≡ [] →
      ((is_some s.cause ≡ true) × (slot_end_of s ≡ [])) ⊎ (slot_end_of s ≡ SlotEnd s.queue.time s.values ∷ []) →
      IsHandedOn takes s old new (handed ++ x ∷ xs) left
  at_end x xs (front, no_end, is) took nothing (inl (some, none)) =
      let same : x ∷ xs ≡ front = is ∙ ap (λ (end : List Item). front ++ end) none ∙ append-nil front in
      goes (x ∷ xs) (without_end x xs (subst HasNoSlotEnd (sym same) no_end)) took nothing (λ goes_on. absurd (goes_on (over s some)))
  at_end x xs (front, no_end, is) took nothing (inr end) =
      let same : x ∷ xs ≡ front ++ SlotEnd s.queue.time s.values ∷ [] = is ∙ ap (λ (rest : List Item). front ++ rest) end in
      goes (x ∷ xs) (ap by_slot same ∙ behind_end front s.queue.time s.values [] no_end ∙ ap (λ (slot : List Item). slot ∷ []) (sym same)) took nothing
      (λ goes_on. subst (λ (slot : List Item). IsCut (handed ++ slot)) (sym same) (cut_behind handed front s.queue.time s.values cut no_end))

  by_mark : (mark : Bool) (waiting : List Item) → is_mark s ≡ mark → Waits waiting s → HandsOn takes mark sink waiting new left →
      IsHandedOn takes s old new (handed ++ waiting) left
  by_mark false waiting m (front, no_end, is) on =
      stays waiting on.0 on.1
      (subst HasNoSlotEnd (sym (on.1 ∙ is ∙ ap (λ (end : List Item). front ++ end) (ends_none s.cause s m) ∙ append-nil front)) no_end)
  by_mark true [] m waits on = stays [] on.0 on.1 (subst HasNoSlotEnd (sym on.1) tt)
  by_mark true (x ∷ xs) m waits on = at_end x xs waits on.0 on.1 (ends_one s.cause s m)

  pub handed_on : (waiting : List Item) → Waits waiting s → HandsOn takes (is_mark s) sink waiting new left →
      IsHandedOn takes s old new (handed ++ waiting) left
  handed_on waiting waits on = by_mark (is_mark s) waiting refl waits on

-- what was handed on where something was pending
pub hands_some : {T : Type 0} (takes : T → List Item → T → Type 0) (old new : T) (waiting left : List Item) → waiting ≢ [] → takes old waiting new → left ≡ [] →
    HandsOn takes true old waiting new left
hands_some takes old new [] left some took none = absurd (some refl)
hands_some takes old new (x ∷ xs) left some took none = (took, none)

-- and where nothing is to be
pub hands_nothing : {T : Type 0} (takes : T → List Item → T → Type 0) (mark : Bool) (sink : T) (waiting : List Item) → (mark ≡ true → waiting ≡ []) → HandsOn takes mark sink waiting sink waiting
hands_nothing takes false sink waiting none = (refl, refl)
hands_nothing takes true sink [] none = (refl, refl)
hands_nothing takes true sink (x ∷ xs) none = absurd (let e : x ∷ xs ≡ [] = none refl in cc)
