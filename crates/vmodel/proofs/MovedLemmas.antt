-- What becomes of the queue where a process takes a step: the order, and the places of processes.
use Rattle.std.proofs.Common.{◌≡◌, ◌≢◌, inl, inr, ℕ, zero, suc, ◌+◌, ◌<◌, ◌≤◌, Bool, true, false, cond, nat_lt, List, [], ◌∷◌, ◌++◌, length, Option, Some, None, option_to_list, refl, sym, ap, subst, ◌∙◌, arith}
use Rattle.std.specs.Prelude.{slice_get, slice_set}
use Rattle.std.specs.Option.{ForSome}
use Rattle.std.proofs.lemmas.Bool.Decides.{nat_tests}
use Rattle.vmodel.specs.declared.effect.Post.{Post}
use Rattle.vmodel.specs.declared.effect.Disposition.{Disposition}
use Rattle.vmodel.specs.declared.effect.Disposition.TheVariants.{Runnable, Delayed, Waiting}
use Rattle.vmodel.specs.declared.part.Part.{Part}
use Rattle.vmodel.specs.declared.frame.Frame.{Frame}
use Rattle.vmodel.specs.State.{Process}
use Rattle.vmodel.specs.Queue.{Later, Queue, with_process, slot_with_sleeper, slot_with_update, later_at, later}
use Rattle.vmodel.specs.Step.{deactivate, process_to_continue, with_next_step, with_delay, reschedule, posts_after, posts, activate_next_region, with_queue_moves, continuation_of, waits_by}
use Rattle.vmodel.specs.Kept.{IsInOrder, count_in, places, most_places, HasRest, waits_of, IsInPlace}
use Rattle.vmodel.specs.SlotEnds.{IsIdle}
use Rattle.vmodel.proofs.PlaceLemmas.{alike, count-other, count-self, count-without_self, count-without, count-with, asleep-wake, asleep-update, without_rises, with_rises, wake_rises, update_rises}

-- ---- what holds of a queue after a move, by the cases of the move

later_by : (P : Queue → Type 0) (d : ℕ) (put : Later → Later) (q : Queue) → 0 < d → P (record q { beyond = true }) →
    ((t : ℕ) → q.time < t → t ≤ q.until → P (record q { future = later_at t put q.future })) →
    P (later d put q)
later_by P d put q some past puts = by_limit (nat_lt q.until (q.time + d)) refl
  where
    by_limit : (b : Bool) → nat_lt q.until (q.time + d) ≡ b →
        P (cond b (record q { beyond = true }) (record q { future = later_at (q.time + d) put q.future }))
    by_limit true e = past
    by_limit false e = puts (q.time + d) (omega (arith, some)) (grind (arith, nat_tests))

pub sleeps_by : (P : Queue → Type 0) (d : ℕ) (sleeper : Option ℕ) (q : Queue) → P q →
    ((p : ℕ) → sleeper ≡ Some p → P (record q { inactive = with_process p q.inactive })) →
    P (record q { beyond = true }) →
    ((t : ℕ) → q.time < t → t ≤ q.until → P (record q { future = later_at t (slot_with_sleeper sleeper) q.future })) →
    P (with_delay d sleeper q)
sleeps_by P zero None q stays lies past wakes = stays
sleeps_by P zero (Some p) q stays lies past wakes = lies p refl
sleeps_by P (suc d) sleeper q stays lies past wakes = later_by P (suc d) (slot_with_sleeper sleeper) q (omega arith) past wakes

posts_after_by : (P : Queue → Type 0) (d : ℕ) (u : List Part) (q : Queue) → P (record q { posted = q.posted ++ u ∷ [] }) →
    P (record q { beyond = true }) →
    ((t : ℕ) → q.time < t → t ≤ q.until → P (record q { future = later_at t (slot_with_update u) q.future })) →
    P (posts_after d u q)
posts_after_by P zero u q behind past puts = behind
posts_after_by P (suc d) u q behind past puts = later_by P (suc d) (slot_with_update u) q (omega arith) past puts

pub posts_by : (P : Queue → Type 0) (posted : Option Post) (q : Queue) → P q →
    ((post : Post) → posted ≡ Some post → P (record q { posted = q.posted ++ post.parts ∷ [] })) →
    P (record q { beyond = true }) →
    ((post : Post) (t : ℕ) → posted ≡ Some post → q.time < t → t ≤ q.until → P (record q { future = later_at t (slot_with_update post.parts) q.future })) →
    P (posts posted q)
posts_by P None q stays behind past puts = stays
posts_by P (Some post) q stays behind past puts =
    posts_after_by P post.after post.parts q (behind post refl) past (λ t lt within. puts post t refl lt within)

pub settled_by : (P : Queue → Type 0) (q : Queue) → (¬ IsIdle q → P q) →
    ((i : ℕ) (is : List ℕ) → q.active ≡ [] → q.inactive ≡ i ∷ is → P (record q { active = i ∷ is; inactive = [] })) →
    ((u : List Part) (us : List (List Part)) → P (record q { activated = u ∷ us; posted = [] })) →
    (IsIdle q → q.inactive ≡ [] → q.posted ≡ [] → P (record q { strobes = [] })) →
    P (with_queue_moves q)
settled_by P q stays wakes activates ends = at q.active q.activated q.inactive q.posted refl refl refl refl
  where
    at : (active : List ℕ) (activated : List (List Part)) (inactive : List ℕ) (posted : List (List Part)) →
        q.active ≡ active → q.activated ≡ activated → q.inactive ≡ inactive → q.posted ≡ posted → P (activate_next_region active activated inactive posted q)
    at (p ∷ ps) us is posts a b c d = stays (λ idle. let e : p ∷ ps ≡ [] = sym a ∙ idle.0 in cc)
    at [] (u ∷ us) is posts a b c d = stays (λ idle. let e : u ∷ us ≡ [] = sym b ∙ idle.1 in cc)
    at [] [] (i ∷ is) posts a b c d = wakes i is a c
    at [] [] [] (u ∷ us) a b c d = activates u us
    at [] [] [] [] a b c d = ends (a, b) c d

-- ---- order

order-leaves : (p : ℕ) (q : Queue) → IsInOrder q → IsInOrder (deactivate p q)
order-leaves p q h = record { active = without_rises p 0 q.active h.active; inactive = h.inactive; future = h.future }

order-sleeps : (d : ℕ) (sleeper : Option ℕ) (q : Queue) → IsInOrder q → IsInOrder (with_delay d sleeper q)
order-sleeps d sleeper q h = sleeps_by IsInOrder d sleeper q h
    (λ p is. record { active = h.active; inactive = with_rises p 0 q.inactive h.inactive (omega arith); future = h.future })
    (record { active = h.active; inactive = h.inactive; future = h.future })
    (λ t lt within. record {
      active = h.active;
      inactive = h.inactive;
      future = wake_rises t (suc q.time) q.until sleeper q.future h.future lt within;
    })

order-goes_on : (p : ℕ) (goes : Option ℕ) (q : Queue) → IsInOrder q → IsInOrder (with_next_step p goes q)
order-goes_on p None q h = order-leaves p q h
order-goes_on p (Some same) q h = record { active = h.active; inactive = h.inactive; future = h.future }

order-posts : (posted : Option Post) (q : Queue) → IsInOrder q → IsInOrder (posts posted q)
order-posts posted q h = posts_by IsInOrder posted q h
    (λ post is. record { active = h.active; inactive = h.inactive; future = h.future })
    (record { active = h.active; inactive = h.inactive; future = h.future })
    (λ post t is lt within. record {
      active = h.active;
      inactive = h.inactive;
      future = update_rises t (suc q.time) q.until post.parts q.future h.future lt within;
    })

order-reschedule : (p : ℕ) (disposition : Disposition) (goes : Option ℕ) (q : Queue) → IsInOrder q → IsInOrder (reschedule p disposition goes q)
order-reschedule p Runnable goes q h = order-goes_on p goes q h
order-reschedule p (Delayed d) goes q h = order-leaves p (with_delay d goes q) (order-sleeps d goes q h)
order-reschedule p (Waiting place) goes q h = order-leaves p q h

pub order-process_with_move : (p : ℕ) (disposition : Disposition) (posted : Option Post) (goes : Option ℕ) (q : Queue) → IsInOrder q → IsInOrder (reschedule p disposition goes (posts posted q))
order-process_with_move p disposition posted goes q h = order-reschedule p disposition goes (posts posted q) (order-posts posted q h)

-- ---- places

-- what else stands somewhere stays where it is, or is gone
places-leaves : (p r : ℕ) (q : Queue) → places r (deactivate p q) ≤ places r q
places-leaves p r q = omega (arith, count-without p r q.active)

places-sleeps : (r d : ℕ) (sleeper : Option ℕ) (q : Queue) → places r (with_delay d sleeper q) ≤ places r q + count_in r (option_to_list sleeper)
places-sleeps r d sleeper q =
    sleeps_by (λ (after : Queue). places r after ≤ places r q + count_in r (option_to_list sleeper)) d sleeper q
    (omega arith)
    (λ p is. omega (arith, count-with p r q.inactive, ap (λ (o : Option ℕ). count_in r (option_to_list o)) is))
    (omega arith)
    (λ t lt within. omega (arith, asleep-wake r t sleeper q.future))

count-process_to_continue : (r p : ℕ) (continuation : List Frame) → r ≢ p → count_in r (option_to_list (process_to_continue p continuation)) ≡ 0
count-process_to_continue r p [] ne = refl
count-process_to_continue r p (frame ∷ rest) ne = count-other r p [] ne

places-goes_on : (r p : ℕ) (goes : Option ℕ) (q : Queue) → places r (with_next_step p goes q) ≤ places r q
places-goes_on r p None q = places-leaves p r q
places-goes_on r p (Some same) q = omega arith

places-posts : (r : ℕ) (posted : Option Post) (q : Queue) → places r (posts posted q) ≤ places r q
places-posts r posted q = posts_by (λ (after : Queue). places r after ≤ places r q) posted q
    (omega arith)
    (λ post is. omega arith)
    (omega arith)
    (λ post t is lt within. omega (arith, asleep-update r t post.parts q.future))

places-reschedule : (r p : ℕ) (disposition : Disposition) (continuation : List Frame) (q : Queue) → r ≢ p → places r (reschedule p disposition (process_to_continue p continuation) q) ≤ places r q
places-reschedule r p Runnable continuation q ne = places-goes_on r p (process_to_continue p continuation) q
places-reschedule r p (Delayed d) continuation q ne =
    omega (arith, places-leaves p r (with_delay d (process_to_continue p continuation) q), places-sleeps r d (process_to_continue p continuation) q, count-process_to_continue r p continuation ne)
places-reschedule r p (Waiting place) continuation q ne = places-leaves p r q

places-others : (r p : ℕ) (disposition : Disposition) (posted : Option Post) (continuation : List Frame) (q : Queue) → r ≢ p →
    places r (reschedule p disposition (process_to_continue p continuation) (posts posted q)) ≤ places r q
places-others r p disposition posted continuation q ne = omega (arith, places-reschedule r p disposition continuation (posts posted q) ne, places-posts r posted q)

-- an active process that stands nowhere else stands nowhere once it has left
left_all : (p : ℕ) (q : Queue) → places p q ≤ 1 → 1 ≤ count_in p q.active → places p (deactivate p q) ≡ 0
left_all p q once active = omega (arith, count-without_self p q.active)

own-goes_on : (p : ℕ) (continuation : List Frame) (q : Queue) → places p q ≤ 1 → 1 ≤ count_in p q.active →
    places p (with_next_step p (process_to_continue p continuation) q) ≤ most_places None continuation
own-goes_on p [] q once active = omega (arith, left_all p q once active)
own-goes_on p (frame ∷ rest) q once active = once

own-process_to_continue : (p : ℕ) (continuation : List Frame) → count_in p (option_to_list (process_to_continue p continuation)) ≤ most_places None continuation
own-process_to_continue p [] = omega arith
own-process_to_continue p (frame ∷ rest) = omega (arith, count-self p [])

-- one that sleeps is where it sleeps, and active no more
own-sleeps : (p d : ℕ) (sleeper : Option ℕ) (q : Queue) → places p q ≤ 1 → 1 ≤ count_in p q.active →
    places p (deactivate p (with_delay d sleeper q)) ≤ count_in p (option_to_list sleeper)
own-sleeps p d sleeper q once active =
    sleeps_by (λ (after : Queue). places p (deactivate p after) ≤ count_in p (option_to_list sleeper)) d sleeper q
    (omega (arith, count-without_self p q.active))
    (λ s is. omega (arith, count-without_self p q.active, count-with s p q.inactive, ap (λ (o : Option ℕ). count_in p (option_to_list o)) is))
    (omega (arith, count-without_self p q.active))
    (λ t lt within. omega (arith, count-without_self p q.active, asleep-wake p t sleeper q.future))

own-reschedule : (p : ℕ) (disposition : Disposition) (continuation : List Frame) (q : Queue) → places p q ≤ 1 → 1 ≤ count_in p q.active →
    places p (reschedule p disposition (process_to_continue p continuation) q) ≤ most_places (waits_by disposition continuation) continuation
own-reschedule p Runnable continuation q once active = own-goes_on p continuation q once active
own-reschedule p (Delayed d) continuation q once active = omega (arith, own-sleeps p d (process_to_continue p continuation) q once active, own-process_to_continue p continuation)
own-reschedule p (Waiting place) continuation q once active = omega (arith, left_all p q once active)

pub active-posts : (posted : Option Post) (q : Queue) → (posts posted q).active ≡ q.active
active-posts posted q = posts_by (λ (after : Queue). after.active ≡ q.active) posted q refl (λ post is. refl) refl (λ post t is lt within. refl)

places-own : (p : ℕ) (disposition : Disposition) (posted : Option Post) (continuation : List Frame) (q : Queue) → places p q ≤ 1 → 1 ≤ count_in p q.active →
    places p (reschedule p disposition (process_to_continue p continuation) (posts posted q)) ≤ most_places (waits_by disposition continuation) continuation
places-own p disposition posted continuation q once active =
    own-reschedule p disposition continuation (posts posted q) (omega (arith, once, places-posts p posted q)) (omega (arith, active, ap (count_in p) (active-posts posted q)))

-- the process that made the last step is active
abbrev pub LastIsActive : Queue → Type 0
LastIsActive q = ForSome q.last (λ p. 1 ≤ count_in p q.active)

pub nobody_last : (q : Queue) → q.last ≡ None → LastIsActive q
nobody_last q none = λ p e. let no : None ≡ Some p = sym none ∙ e in cc

last-goes_on : (p : ℕ) (continuation : List Frame) (q : Queue) → 1 ≤ count_in p q.active → LastIsActive (with_next_step p (process_to_continue p continuation) q)
last-goes_on p [] q active = nobody_last (deactivate p q) refl
last-goes_on p (frame ∷ rest) q active = λ r e. let same : p ≡ r = cc in subst (λ (n : ℕ). 1 ≤ count_in n q.active) same active

last-reschedule : (p : ℕ) (disposition : Disposition) (continuation : List Frame) (q : Queue) → 1 ≤ count_in p q.active → LastIsActive (reschedule p disposition (process_to_continue p continuation) q)
last-reschedule p Runnable continuation q active = last-goes_on p continuation q active
last-reschedule p (Delayed d) continuation q active = nobody_last (deactivate p (with_delay d (process_to_continue p continuation) q)) refl
last-reschedule p (Waiting place) continuation q active = nobody_last (deactivate p q) refl

last-process_with_move : (p : ℕ) (disposition : Disposition) (posted : Option Post) (continuation : List Frame) (q : Queue) → 1 ≤ count_in p q.active →
    LastIsActive (reschedule p disposition (process_to_continue p continuation) (posts posted q))
last-process_with_move p disposition posted continuation q active = last-reschedule p disposition continuation (posts posted q) (omega (arith, active, ap (count_in p) (active-posts posted q)))

-- ---- what a process has left, after one has less

abbrev pub continuation_at : List Process → ℕ → List Frame
continuation_at processes p = continuation_of (slice_get processes p)

pub is_there : (processes : List Process) (p : ℕ) (frame : Frame) (rest : List Frame) → continuation_at processes p ≡ frame ∷ rest → p < length processes
is_there [] p frame rest e = cc
is_there (r ∷ rs) zero frame rest e = omega arith
is_there (r ∷ rs) (suc p) frame rest e = omega (arith, is_there rs p frame rest e)

abbrev pub waits_at : List Process → ℕ → Option ℕ
waits_at processes p = waits_of (slice_get processes p)

pub get-set_same : (processes : List Process) (p : ℕ) (q : Process) → p < length processes → slice_get (slice_set processes p q) p ≡ Some q
get-set_same [] p q lt = absurd (omega arith)
get-set_same (r ∷ rs) zero q lt = refl
get-set_same (r ∷ rs) (suc p) q lt = get-set_same rs p q (omega arith)

pub get-set_other : (processes : List Process) (p r : ℕ) (q : Process) → r ≢ p → slice_get (slice_set processes p q) r ≡ slice_get processes r
get-set_other [] p r q ne = refl
get-set_other (x ∷ xs) zero zero q ne = absurd (ne refl)
get-set_other (x ∷ xs) zero (suc r) q ne = refl
get-set_other (x ∷ xs) (suc p) zero q ne = refl
get-set_other (x ∷ xs) (suc p) (suc r) q ne = get-set_other xs p r q (λ e. ne (ap suc e))

-- in how many places one may stand
abbrev pub most_at : Option Process → ℕ
most_at o = most_places (waits_of o) (continuation_of o)

most-one : (waits : Option ℕ) (continuation : List Frame) → most_places waits continuation ≤ 1
most-one (Some place) continuation = omega arith
most-one None [] = omega arith
most-one None (frame ∷ rest) = omega arith

rest-by : (disposition : Disposition) (continuation : List Frame) → HasRest (waits_by disposition continuation) continuation
rest-by Runnable continuation = tt
rest-by (Delayed d) continuation = tt
rest-by (Waiting place) [] = tt
rest-by (Waiting place) (frame ∷ rest) = tt

abbrev pub IsWaiting : Option Process → Type 0
IsWaiting o = HasRest (waits_of o) (continuation_of o)

pub place-process_with_move : (p : ℕ) (disposition : Disposition) (posted : Option Post) (after : Process) (q : Queue) (processes : List Process) → IsInPlace q processes →
    after.waits ≡ waits_by disposition after.continuation → 1 ≤ count_in p q.active → p < length processes →
    IsInPlace (reschedule p disposition (process_to_continue p after.continuation) (posts posted q)) (slice_set processes p after)
place-process_with_move p disposition posted after q processes h waits active lt = record {
  once = λ r. elim (alike r p) [
    | inl e ↦ subst (λ (n : ℕ). places n process_with_move ≤ most_at (slice_get (slice_set processes p after) n)) (sym e)
        (omega (
          arith,
          places-own p disposition posted after.continuation q one active,
          ap (λ (w : Option ℕ). most_places w after.continuation) waits,
          ap most_at (get-set_same processes p after lt),
        ))
    | inr ne ↦ omega (arith, places-others r p disposition posted after.continuation q ne, h.once r, ap most_at (get-set_other processes p r after ne))
  ];
  waiting = λ r. elim (alike r p) [
    | inl e ↦ subst (λ (n : ℕ). IsWaiting (slice_get (slice_set processes p after) n)) (sym e)
        (subst IsWaiting (sym (get-set_same processes p after lt))
        (subst (λ (w : Option ℕ). HasRest w after.continuation) (sym waits) (rest-by disposition after.continuation)))
    | inr ne ↦ subst IsWaiting (sym (get-set_other processes p r after ne)) (h.waiting r)
  ];
  last = last-process_with_move p disposition posted after.continuation q active;
}
  where
    process_with_move : Queue
    process_with_move = reschedule p disposition (process_to_continue p after.continuation) (posts posted q)

    one : places p q ≤ 1
    one = omega (arith, h.once p, most-one (waits_at processes p) (continuation_at processes p))
