-- What the calls of a queue come to.
use Rattle.std.proofs.Common.{◌≡◌, ℕ, suc, ◌<◌, ◌≤◌, List, [], ◌∷◌, Option, Some, None, refl, sym, ap, subst, ◌∙◌, arith}
use Rattle.std.specs.Prelude.{unwrap_or}
use Rattle.vmodel.specs.declared.part.Part.{Part}
use Rattle.vmodel.specs.Kept.{RisesFrom, IsInOrder, count_in}
use Rattle.vmodel.specs.Queue.{Later, Queue, with_process, without_process}
use Rattle.vmodel.specs.SlotEnds.{IsIdle}
use Rattle.vmodel.specs.Step.{deactivate, with_delay, posts_after, without_update, with_queue_moves, with_advance, activate_next_region, run_monitors}
use Rattle.vmodel.proofs.MovedLemmas.{sleeps_by, posts_by, settled_by}
use Rattle.vmodel.proofs.PlaceLemmas.{count-other, with_rises, without_rises, wake_rises, update_rises}
use Rattle.vmodel.proofs.ProcessLemmas.{less, equal, more, compared, with_less, with_more, without_other, without_same}
use Rattle.vstrata.specs.declared.taken.Taken.{Taken}
use Rattle.vstrata.specs.declared.taken.Taken.TheVariants.{Process, Update}
use Rattle.vstrata.specs.Strata.{ended_with, with_active, without_taken}
use Rattle.vstrata.specs.Laws.{AddsTheAdvance, GoesOnAsTaken, KeepsOrder, StaysInOrder, HandsOutAll, EndsIdle, ElseIsActive}

pub adds_the_advance : AddsTheAdvance
adds_the_advance q = refl

-- ---- a process that is taken out and put in again

none_below : (low p : ℕ) (ps : List ℕ) → RisesFrom low ps → p < low → count_in p ps ≡ 0
none_below low p [] rises lt = refl
none_below low p (q ∷ qs) rises lt =
    count-other p q qs (omega (arith, rises.0)) ∙ none_below (suc q) p qs rises.1 (omega (arith, rises.0))

all_above : (low p : ℕ) (ps : List ℕ) → RisesFrom low ps → p < low → without_process p ps ≡ ps
all_above low p [] rises lt = refl
all_above low p (q ∷ qs) rises lt =
    without_other p q qs (omega (arith, rises.0)) ∙ ap (λ (rest : List ℕ). q ∷ rest) (all_above (suc q) p qs rises.1 (omega (arith, rises.0)))

put_first : (low p : ℕ) (ps : List ℕ) → RisesFrom low ps → p < low → with_process p ps ≡ p ∷ ps
put_first low p [] rises lt = refl
put_first low p (q ∷ qs) rises lt = with_less p q qs (omega (arith, rises.0))

put_back : (low p : ℕ) (ps : List ℕ) → RisesFrom low ps → 1 ≤ count_in p ps → with_process p (without_process p ps) ≡ ps
put_back low p [] rises some = absurd (omega (arith, some))
put_back low p (q ∷ qs) rises some = elim (compared p q) [
  | less lt ↦ absurd (omega (arith, some, count-other p q qs (omega arith), none_below (suc q) p qs rises.1 (omega arith)))
  | equal is ↦
      ap (with_process p) (without_same p q qs is ∙ all_above (suc q) p qs rises.1 (omega arith))
      ∙ put_first (suc q) p qs rises.1 (omega arith)
      ∙ ap (λ (n : ℕ). n ∷ qs) is
  | more gt ↦
      ap (with_process p) (without_other p q qs (omega arith))
      ∙ with_more p q (without_process p qs) gt
      ∙ ap (λ (rest : List ℕ). q ∷ rest) (put_back (suc q) p qs rises.1 (omega (arith, some, count-other p q qs (omega arith))))
]

pub goes_on_as_taken : GoesOnAsTaken
goes_on_as_taken q p rises some = ap (λ (ps : List ℕ). record q { last = Some p; active = ps }) (put_back 0 p q.active rises some)

-- ---- the order

with_one : (p : ℕ) (last : Option ℕ) (q : Queue) → IsInOrder q → IsInOrder (record q { last = last; active = with_process p q.active })
with_one p last q h = record { active = with_rises p 0 q.active h.active (omega arith); inactive = h.inactive; future = h.future }

woken : (p : ℕ) → KeepsOrder (with_active p)
woken p q h = record { active = with_rises p 0 q.active h.active (omega arith); inactive = h.inactive; future = h.future }

left : (p : ℕ) → KeepsOrder (deactivate p)
left p q h = record { active = without_rises p 0 q.active h.active; inactive = h.inactive; future = h.future }

slept : (d : ℕ) (sleeper : Option ℕ) → KeepsOrder (with_delay d sleeper)
slept d sleeper q h = sleeps_by IsInOrder d sleeper q h
    (λ p is. record { active = h.active; inactive = with_rises p 0 q.inactive h.inactive (omega arith); future = h.future })
    (record { active = h.active; inactive = h.inactive; future = h.future })
    (λ t lt within. record { active = h.active; inactive = h.inactive; future = wake_rises t (suc q.time) q.until sleeper q.future h.future lt within })

posted : (d : ℕ) (u : List Part) → KeepsOrder (posts_after d u)
posted d u q h = posts_by IsInOrder (Some (record { after = d; parts = u })) q h
    (λ post is. record { active = h.active; inactive = h.inactive; future = h.future })
    (record { active = h.active; inactive = h.inactive; future = h.future })
    (λ post t is lt within.
    record { active = h.active; inactive = h.inactive; future = update_rises t (suc q.time) q.until post.parts q.future h.future lt within })

written : (us : List (List Part)) → KeepsOrder (without_update us)
written [] q h = h
written (u ∷ us) q h = record { active = h.active; inactive = h.inactive; future = h.future }

taken_out : (taken : Taken) → KeepsOrder (without_taken taken)
taken_out (Process p) q h = left p q h
taken_out (Update u) q h = written q.activated q h

moved : KeepsOrder with_queue_moves
moved q h = settled_by IsInOrder q (λ busy. h)
    (λ i is none some. record { active = subst (RisesFrom 0) some h.inactive; inactive = tt; future = h.future })
    (λ u us. record { active = h.active; inactive = h.inactive; future = h.future })
    (λ idle none done. record { active = h.active; inactive = h.inactive; future = h.future })

advanced : (future : List (ℕ × Later)) (q : Queue) → q.future ≡ future → IsInOrder q → IsInOrder (with_advance future q)
advanced [] q is h = h
advanced (e ∷ es) q is h =
    let first = rw is at h.future in record { active = first.2; inactive = h.inactive; future = first.3 }

pub stays_in_order : StaysInOrder
stays_in_order = record {
  opens = λ processes until grain rises. record { active = rises; inactive = tt; future = tt };
  activates = λ p q h. with_one p (Some p) q h;
  wakes = woken;
  leaves = left;
  sleeps = slept;
  posts = posted;
  strobes = λ strobed q h. record { active = h.active; inactive = h.inactive; future = h.future };
  takes = taken_out;
  moves = moved;
  advances = λ q h. advanced q.future q refl h;
}

-- ---- the region moves

handed_out : (active : List ℕ) (activated : List (List Part)) (inactive : List ℕ) (posted : List (List Part)) (strobes : List ℕ) →
    run_monitors active activated inactive posted strobes ≡ unwrap_or (ended_with active activated inactive posted strobes) []
handed_out (p ∷ ps) us is posts strobes = refl
handed_out [] (u ∷ us) is posts strobes = refl
handed_out [] [] (i ∷ is) posts strobes = refl
handed_out [] [] [] (u ∷ us) strobes = refl
handed_out [] [] [] [] strobes = refl

pub hands_out_all : HandsOutAll
hands_out_all q = handed_out q.active q.activated q.inactive q.posted q.strobes

module _ (q : Queue) where
  ended : (active : List ℕ) (activated : List (List Part)) (inactive : List ℕ) (posted : List (List Part)) (strobes monitors : List ℕ) →
      q.active ≡ active → q.activated ≡ activated → ended_with active activated inactive posted strobes ≡ Some monitors →
      IsIdle (activate_next_region active activated inactive posted q)
  ended (p ∷ ps) us is posts strobes monitors a u h = cc
  ended [] (x ∷ us) is posts strobes monitors a u h = cc
  ended [] [] (i ∷ is) posts strobes monitors a u h = cc
  ended [] [] [] (x ∷ us) strobes monitors a u h = cc
  ended [] [] [] [] strobes monitors a u h = (a, u)

  going_on : (active : List ℕ) (activated : List (List Part)) (inactive : List ℕ) (posted : List (List Part)) (strobes : List ℕ) →
      q.active ≡ active → q.activated ≡ activated → ended_with active activated inactive posted strobes ≡ None →
      IsIdle (activate_next_region active activated inactive posted q) → ⊥
  going_on (p ∷ ps) us is posts strobes a u h idle = let some : p ∷ ps ≡ [] = sym a ∙ idle.0 in cc
  going_on [] (x ∷ us) is posts strobes a u h idle = let some : x ∷ us ≡ [] = sym u ∙ idle.1 in cc
  going_on [] [] (i ∷ is) posts strobes a u h idle = let some : i ∷ is ≡ [] = idle.0 in cc
  going_on [] [] [] (x ∷ us) strobes a u h idle = let some : x ∷ us ≡ [] = idle.1 in cc
  going_on [] [] [] [] strobes a u h idle = cc

pub ends_idle : EndsIdle
ends_idle q monitors h = ended q q.active q.activated q.inactive q.posted q.strobes monitors refl refl h

pub else_is_active : ElseIsActive
else_is_active q h idle = going_on q q.active q.activated q.inactive q.posted q.strobes refl refl h idle
