-- In how many places a process stands, and which lists rise.
use Rattle.std.proofs.Common.{◌≡◌, ◌≢◌, ◌⊎◌, inl, inr, ℕ, suc, Bool, true, false, ◌||◌, ◌+◌, ◌≤◌, List, [], ◌∷◌, Option, Some, None, option_to_list, refl, sym, ap, subst, ◌∙◌, arith}
use Rattle.std.proofs.lemmas.Bool.Decides.{eqb_tells}
use Rattle.std.proofs.lemmas.Bool.{ne_eqb}
use Rattle.vmodel.specs.declared.part.Part.{Part}
use Rattle.vmodel.specs.Queue.{Later, with_process, without_process, empty_slot, slot_with_sleeper, slot_with_update, later_at}
use Rattle.vmodel.specs.Kept.{RisesFrom, FutureFrom, count_in, asleep}
use Rattle.vmodel.proofs.ProcessLemmas.{less, equal, more, compared, same, with_less, with_same, with_more, without_other, without_same}
use Rattle.vmodel.proofs.FutureLemmas.{earlier, here, sooner}

-- one of two tests holds where either does
pub or_either : (a b : Bool) → (a || b) ≡ true → (a ≡ true) ⊎ (b ≡ true)
or_either true b e = inl refl
or_either false b e = inr e

pub alike : (p q : ℕ) → (p ≡ q) ⊎ (p ≢ q)
alike p q = elim (eqb_tells p q) [ inl h ↦ inl h.1 | inr h ↦ inr h.1 ]

-- ---- how often a number stands in a list

count-same : (p q : ℕ) (qs : List ℕ) → p ≡ q → count_in p (q ∷ qs) ≡ suc (count_in p qs)
count-same p q qs e = rw (same p q e)

pub count-other : (p q : ℕ) (qs : List ℕ) → p ≢ q → count_in p (q ∷ qs) ≡ count_in p qs
count-other p q qs ne = rw (ne_eqb p q ne)

pub count-self : (p : ℕ) (qs : List ℕ) → count_in p (p ∷ qs) ≡ suc (count_in p qs)
count-self p qs = count-same p p qs refl

pub count-cons : (p q : ℕ) (qs : List ℕ) → count_in p (q ∷ qs) ≡ count_in p qs + count_in p (q ∷ [])
count-cons p q qs = elim (alike p q) [
  | inl e ↦ omega (arith, count-same p q qs e, count-same p q [] e)
  | inr ne ↦ omega (arith, count-other p q qs ne, count-other p q [] ne)
]

pub count-without_self : (p : ℕ) (qs : List ℕ) → count_in p (without_process p qs) ≡ 0
count-without_self p [] = refl
count-without_self p (q ∷ qs) = elim (alike p q) [
  | inl e ↦ ap (count_in p) (without_same p q qs e) ∙ count-without_self p qs
  | inr ne ↦ ap (count_in p) (without_other p q qs ne) ∙ count-other p q (without_process p qs) ne ∙ count-without_self p qs
]

pub count-without : (p r : ℕ) (qs : List ℕ) → count_in r (without_process p qs) ≤ count_in r qs
count-without p r [] = omega arith
count-without p r (q ∷ qs) =
    let rest : count_in r (without_process p qs) ≤ count_in r qs = count-without p r qs in
    elim (alike p q) [
      | inl e ↦ omega (arith, rest, ap (count_in r) (without_same p q qs e), count-cons r q qs)
      | inr ne ↦ omega (arith, rest, ap (count_in r) (without_other p q qs ne), count-cons r q qs, count-cons r q (without_process p qs))
    ]

pub count-with : (p r : ℕ) (qs : List ℕ) → count_in r (with_process p qs) ≤ count_in r qs + count_in r (p ∷ [])
count-with p r [] = omega arith
count-with p r (q ∷ qs) = elim (compared p q) [
  | less lt ↦ omega (arith, ap (count_in r) (with_less p q qs lt), count-cons r p (q ∷ qs))
  | equal e ↦ omega (arith, ap (count_in r) (with_same p q qs e))
  | more gt ↦ omega (arith, count-with p r qs, ap (count_in r) (with_more p q qs gt), count-cons r q qs, count-cons r q (with_process p qs))
]

pub count-keeps : (p r : ℕ) (qs : List ℕ) → count_in r qs ≤ count_in r (with_process p qs)
count-keeps p r [] = omega arith
count-keeps p r (q ∷ qs) = elim (compared p q) [
  | less lt ↦ omega (arith, ap (count_in r) (with_less p q qs lt), count-cons r p (q ∷ qs))
  | equal e ↦ omega (arith, ap (count_in r) (with_same p q qs e))
  | more gt ↦ omega (arith, count-keeps p r qs, ap (count_in r) (with_more p q qs gt), count-cons r q qs, count-cons r q (with_process p qs))
]

pub count-slot_with_sleeper : (r : ℕ) (sleeper : Option ℕ) (slot : Later) →
    count_in r (slot_with_sleeper sleeper slot).processes ≤ count_in r slot.processes + count_in r (option_to_list sleeper)
count-slot_with_sleeper r None slot = omega arith
count-slot_with_sleeper r (Some p) slot = count-with p r slot.processes

-- where no more than so much is put to what a time holds
asleep-later : (r t most : ℕ) (put : Later → Later) (es : List (ℕ × Later)) →
    ((slot : Later) → count_in r (put slot).processes ≤ count_in r slot.processes + most) →
    asleep r (later_at t put es) ≤ asleep r es + most
asleep-later r t most put [] few = omega (arith, few empty_slot)
asleep-later r t most put (e ∷ es) few = elim (compared t e.0) [
  | less lt ↦ omega (arith, few empty_slot, ap (asleep r) (sooner t put e es lt))
  | equal is ↦ omega (arith, few e.1, ap (asleep r) (here t put e es is))
  | more gt ↦ omega (arith, asleep-later r t most put es few, ap (asleep r) (earlier t put e es gt))
]

pub asleep-wake : (r t : ℕ) (sleeper : Option ℕ) (es : List (ℕ × Later)) →
    asleep r (later_at t (slot_with_sleeper sleeper) es) ≤ asleep r es + count_in r (option_to_list sleeper)
asleep-wake r t sleeper es = asleep-later r t (count_in r (option_to_list sleeper)) (slot_with_sleeper sleeper) es (count-slot_with_sleeper r sleeper)

pub asleep-update : (r t : ℕ) (u : List Part) (es : List (ℕ × Later)) → asleep r (later_at t (slot_with_update u) es) ≤ asleep r es
asleep-update r t u es = omega (arith, asleep-later r t 0 (slot_with_update u) es (λ slot. omega arith))

-- ---- rising lists

pub rises_below : (low lower : ℕ) (ns : List ℕ) → RisesFrom low ns → lower ≤ low → RisesFrom lower ns
rises_below low lower [] h le = tt
rises_below low lower (n ∷ ns) h le = (omega (arith, h.0), h.1)

pub without_rises : (p low : ℕ) (qs : List ℕ) → RisesFrom low qs → RisesFrom low (without_process p qs)
without_rises p low [] h = tt
without_rises p low (q ∷ qs) h =
    let rest : RisesFrom (suc q) (without_process p qs) = without_rises p (suc q) qs h.1 in
    elim (alike p q) [
      | inl e ↦ subst (RisesFrom low) (sym (without_same p q qs e)) (rises_below (suc q) low (without_process p qs) rest (omega (arith, h.0)))
      | inr ne ↦ subst (RisesFrom low) (sym (without_other p q qs ne)) (h.0, rest)
    ]

pub with_rises : (p low : ℕ) (qs : List ℕ) → RisesFrom low qs → low ≤ p → RisesFrom low (with_process p qs)
with_rises p low [] h le = (le, tt)
with_rises p low (q ∷ qs) h le = elim (compared p q) [
  | less lt ↦ subst (RisesFrom low) (sym (with_less p q qs lt)) (le, (lt, h.1))
  | equal e ↦ subst (RisesFrom low) (sym (with_same p q qs e)) h
  | more gt ↦ subst (RisesFrom low) (sym (with_more p q qs gt)) (h.0, with_rises p (suc q) qs h.1 gt)
]

waking_rises : (sleeper : Option ℕ) (slot : Later) → RisesFrom 0 slot.processes → RisesFrom 0 (slot_with_sleeper sleeper slot).processes
waking_rises None slot h = h
waking_rises (Some p) slot h = with_rises p 0 slot.processes h (omega arith)

later_rises : (t low until : ℕ) (put : Later → Later) (es : List (ℕ × Later)) → FutureFrom low until es → low ≤ t → t ≤ until →
    ((slot : Later) → RisesFrom 0 slot.processes → RisesFrom 0 (put slot).processes) →
    FutureFrom low until (later_at t put es)
later_rises t low until put [] h le within keeps = (le, within, keeps empty_slot tt, tt)
later_rises t low until put (e ∷ es) h le within keeps = elim (compared t e.0) [
  | less lt ↦ subst (FutureFrom low until) (sym (sooner t put e es lt))
      (le, within, keeps empty_slot tt, (lt, h.1, h.2, h.3))
  | equal is ↦ subst (FutureFrom low until) (sym (here t put e es is)) (h.0, h.1, keeps e.1 h.2, h.3)
  | more gt ↦ subst (FutureFrom low until) (sym (earlier t put e es gt))
      (h.0, h.1, h.2, later_rises t (suc e.0) until put es h.3 gt within keeps)
]

pub wake_rises : (t low until : ℕ) (sleeper : Option ℕ) (es : List (ℕ × Later)) → FutureFrom low until es → low ≤ t → t ≤ until →
    FutureFrom low until (later_at t (slot_with_sleeper sleeper) es)
wake_rises t low until sleeper es h le within = later_rises t low until (slot_with_sleeper sleeper) es h le within (waking_rises sleeper)

pub update_rises : (t low until : ℕ) (u : List Part) (es : List (ℕ × Later)) → FutureFrom low until es → low ≤ t → t ≤ until →
    FutureFrom low until (later_at t (slot_with_update u) es)
update_rises t low until u es h le within = later_rises t low until (slot_with_update u) es h le within (λ slot rises. rises)
