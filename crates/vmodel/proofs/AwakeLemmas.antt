-- What is kept where processes wake.
use Rattle.std.proofs.Common.{◌≡◌, ◌≢◌, inl, inr, ℕ, zero, suc, ◌+◌, ◌<◌, ◌≤◌, Bool, true, false, cond, List, [], ◌∷◌, map, option_map, Option, Some, None, refl, sym, ap, subst, ◌∙◌, arith}
use Rattle.std.specs.Prelude.{slice_get}
use Rattle.vbits.specs.Vectors.{Vector}
use Rattle.vdesign.specs.declared.action.Action.{Action}
use Rattle.vdesign.specs.Design.{Design}
use Rattle.vmodel.specs.declared.frame.Frame.{Frame}
use Rattle.vmodel.specs.Queue.{Queue, with_process}
use Rattle.vmodel.specs.State.{Process, State}
use Rattle.vmodel.specs.Waking.{wakes_at, wakes, awake, with_awake}
use Rattle.vmodel.specs.Step.{with_woken}
use Rattle.vmodel.specs.Kept.{RisesFrom, IsInOrder, count_in, places, most_places, HasRest, IsInPlace}
use Rattle.vmodel.proofs.PlaceLemmas.{alike, count-other, count-self, count-with, count-keeps, with_rises}
use Rattle.vmodel.proofs.MovedLemmas.{most_at, IsWaiting}

-- ---- which processes are active

with_rises_by : (b : Bool) (n : ℕ) (active : List ℕ) → RisesFrom 0 active → RisesFrom 0 (cond b (with_process n active) active)
with_rises_by true n active h = with_rises n 0 active h (omega arith)
with_rises_by false n active h = h

pub awake_rises : (comes : Process → Bool) (n : ℕ) (ps : List Process) (active : List ℕ) → RisesFrom 0 active → RisesFrom 0 (with_awake comes n ps active)
awake_rises comes n [] active h = h
awake_rises comes n (process ∷ rest) active h =
    awake_rises comes (suc n) rest (cond (comes process) (with_process n active) active) (with_rises_by (comes process) n active h)

keeps_by : (b : Bool) (r n : ℕ) (active : List ℕ) → count_in r active ≤ count_in r (cond b (with_process n active) active)
keeps_by true r n active = count-keeps n r active
keeps_by false r n active = omega arith

pub awake_keeps : (comes : Process → Bool) (r n : ℕ) (ps : List Process) (active : List ℕ) → count_in r active ≤ count_in r (with_awake comes n ps active)
awake_keeps comes r n [] active = omega arith
awake_keeps comes r n (process ∷ rest) active =
    omega (
      arith,
      keeps_by (comes process) r n active,
      awake_keeps comes r (suc n) rest (cond (comes process) (with_process n active) active),
    )

-- how often a number is added: where its process wakes
abbrev added : (Process → Bool) → Option Process → ℕ
added comes None = 0
added comes (Some process) = cond (comes process) 1 0

adds_by : (b : Bool) (r n : ℕ) (active : List ℕ) → count_in r (cond b (with_process n active) active) ≤ count_in r active + cond b (count_in r (n ∷ [])) 0
adds_by true r n active = count-with n r active
adds_by false r n active = omega arith

-- a number below those of the processes isn't added
awake_below : (comes : Process → Bool) (r n : ℕ) (ps : List Process) (active : List ℕ) → r < n → count_in r (with_awake comes n ps active) ≤ count_in r active
awake_below comes r n [] active lt = omega arith
awake_below comes r n (process ∷ rest) active lt =
    omega (
      arith,
      awake_below comes r (suc n) rest (cond (comes process) (with_process n active) active) (omega (arith, lt)),
      adds_by (comes process) r n active,
      other (comes process),
    )
  where
    other : (b : Bool) → cond b (count_in r (n ∷ [])) 0 ≤ 0
    other true = omega (arith, count-other r n [] (omega (arith, lt)))
    other false = omega arith

one_by : (b : Bool) (r n : ℕ) → cond b (count_in r (n ∷ [])) 0 ≤ cond b 1 0
one_by true r n = elim (alike r n) [ inl e ↦ omega (arith, ap (λ (m : ℕ). count_in r (m ∷ [])) (sym e), count-self r []) | inr ne ↦ omega (arith, count-other r n [] ne) ]
one_by false r n = omega arith

awake_counts : (comes : Process → Bool) (r n k : ℕ) (ps : List Process) (active : List ℕ) → r ≡ n + k →
    count_in r (with_awake comes n ps active) ≤ count_in r active + added comes (slice_get ps k)
awake_counts comes r n k [] active e = omega arith
awake_counts comes r n zero (process ∷ rest) active e =
    omega (
      arith,
      awake_below comes r (suc n) rest (cond (comes process) (with_process n active) active) (omega (arith, e)),
      adds_by (comes process) r n active,
      one_by (comes process) r n,
    )
awake_counts comes r n (suc k) (process ∷ rest) active e =
    omega (
      arith,
      awake_counts comes r (suc n) k rest (cond (comes process) (with_process n active) active) (omega (arith, e)),
      adds_by (comes process) r n active,
      other (comes process),
    )
  where
    other : (b : Bool) → cond b (count_in r (n ∷ [])) 0 ≤ 0
    other true = omega (arith, count-other r n [] (omega (arith, e)))
    other false = omega arith

-- ---- a process that wakes

pub get_awake : (comes : Process → Bool) (ps : List Process) (r : ℕ) → slice_get (map (awake comes) ps) r ≡ option_map (awake comes) (slice_get ps r)
get_awake comes [] r = refl
get_awake comes (process ∷ rest) zero = refl
get_awake comes (process ∷ rest) (suc r) = get_awake comes rest r

-- only one that waits does
abbrev OnlyWaiting : (Process → Bool) → Type 0
OnlyWaiting comes = (process : Process) → comes process ≡ true → process.waits ≢ None

abbrev Stands : (Process → Bool) → ℕ → Option Process → Type 0
Stands comes count o = (count + added comes o ≤ most_at (option_map (awake comes) o)) × IsWaiting (option_map (awake comes) o)

stands_awake : (process : Process) (count : ℕ) (waits : Option ℕ) (continuation : List Frame) → process.waits ≡ waits → process.continuation ≡ continuation → waits ≢ None →
    count ≤ most_places waits continuation → HasRest waits continuation → count + 1 ≤ most_places None process.continuation
stands_awake process count None continuation w l ne few rest = absurd (ne refl)
stands_awake process count (Some place) [] w l ne few rest = absurd rest
stands_awake process count (Some place) (frame ∷ more) w l ne few rest = omega (arith, few, ap (most_places None) l)

stands_by : (comes : Process → Bool) (count : ℕ) (process : Process) (b : Bool) → comes process ≡ b → OnlyWaiting comes →
    count ≤ most_at (Some process) → IsWaiting (Some process) →
    (count + cond b 1 0 ≤ most_at (Some (cond b (record process { waits = None }) process))) × IsWaiting (Some (cond b (record process { waits = None }) process))
stands_by comes count process true is only few rest =
    (stands_awake process count process.waits process.continuation refl refl (only process is) few rest, tt)
stands_by comes count process false is only few rest = (omega (arith, few), rest)

stands : (comes : Process → Bool) (count : ℕ) (o : Option Process) → OnlyWaiting comes → count ≤ most_at o → IsWaiting o → Stands comes count o
stands comes count None only few rest = (omega (arith, few), tt)
stands comes count (Some process) only few rest = stands_by comes count process (comes process) refl only few rest

place-awake : (comes : Process → Bool) (q : Queue) (ps : List Process) → OnlyWaiting comes → IsInPlace q ps →
    IsInPlace (record q { active = with_awake comes 0 ps q.active }) (map (awake comes) ps)
place-awake comes q ps only h = record {
  once = λ p. omega (
    arith,
    awake_counts comes p 0 p ps q.active (omega arith),
    (stands comes (places p q) (slice_get ps p) only (h.once p) (h.waiting p)).0,
    ap most_at (get_awake comes ps p),
  );
  waiting = λ p. subst IsWaiting (sym (get_awake comes ps p)) (stands comes (places p q) (slice_get ps p) only (h.once p) (h.waiting p)).1;
  last = λ p e. omega (arith, h.last p e, awake_keeps comes p 0 ps q.active);
}

waiting_only : (actions : List Action) (before after : List Vector) (triggered : Option ℕ) → OnlyWaiting (wakes actions before after triggered)
waiting_only actions before after triggered process is none =
    let no : wakes_at actions before after triggered None ≡ true = ap (wakes_at actions before after triggered) (sym none) ∙ is in cc

-- ---- a state in which processes wake

pub order-with_woken : (design : Design) (before : List Vector) (triggered : Option ℕ) (s : State) → IsInOrder s.queue →
    IsInOrder (with_woken design before triggered s).queue
order-with_woken design before triggered s h = record {
  active = awake_rises (wakes design.actions before s.values triggered) 0 s.processes s.queue.active h.active;
  inactive = h.inactive;
  future = h.future;
}

pub place-with_woken : (design : Design) (before : List Vector) (triggered : Option ℕ) (s : State) → IsInPlace s.queue s.processes →
    IsInPlace (with_woken design before triggered s).queue (with_woken design before triggered s).processes
place-with_woken design before triggered s h =
    place-awake (wakes design.actions before s.values triggered) s.queue s.processes (waiting_only design.actions before s.values triggered) h
