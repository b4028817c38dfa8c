-- While a process is held back something else can go on, and choice 0 takes it.
use Rattle.std.proofs.Common.{◌≡◌, inl, inr, ℕ, ◌==◌, ◌&&◌, cond, is_some, map, List, [], ◌∷◌, ◌++◌, length, Option, Some, None, refl, sym, ap, subst, ◌∙◌}
use Rattle.std.specs.Prelude.{slice_get, unwrap_or}
use Rattle.sched_core.specs.declared.end.Cause.{Cause}
use Rattle.sched_core.specs.declared.setting.Grain.{Grain}
use Rattle.sched_core.specs.declared.setting.Grain.TheVariants.{Process, Statement}
use Rattle.vmodel.specs.declared.part.Part.{Part}
use Rattle.vmodel.specs.declared.choice.Choice.{Choice}
use Rattle.vmodel.specs.declared.choice.Choice.TheVariants.{Run, Update}
use Rattle.vmodel.specs.Queue.{Queue}
use Rattle.vmodel.specs.State.{State}
use Rattle.vmodel.specs.Choices.{in_order, first_update, or_advance, offered_choices, free_among, order_by, order_of, taking_or_holding, choices_by, choices}
use Rattle.vmodel.specs.Holding.{release}
use Rattle.vmodel.specs.Run.{Setting, state_after}
use Rattle.plain_steps.specs.RunLaws.{IsAlwaysKept}
use Rattle.vmodel.specs.Kept.{AreHeldBack, IsKept}
use Rattle.holding_law.specs.Held.{held_in, IsHeld, IsActive, HasFree}
use Rattle.holding_law.proofs.MemberLemmas.{IsIn, contains_in, in_contains, in_free}
use Rattle.holding_law.proofs.MayLemmas.{held_in_active, may_go}

-- where neither is there, nobody is held back
none_free : (q : Queue) (held : List ℕ) → release q held ≡ held → free_among held q.active ≡ [] → q.activated ≡ [] → held ≡ []
none_free q held still free updates =
    sym still ∙ (λ k. cond (length (free k) == 0 && length (updates k) == 0) [] held)

-- the first process that is free, or the first update
data FirstFree (q : Queue) (held : List ℕ) : Type 0 where
  process : (r : ℕ) (rs : List ℕ) → free_among held q.active ≡ r ∷ rs → FirstFree q held
  update : (u : List Part) (us : List (List Part)) → free_among held q.active ≡ [] → q.activated ≡ u ∷ us → FirstFree q held

first_free : (q : Queue) (held : List ℕ) (p : ℕ) → AreHeldBack q held → IsIn p held → FirstFree q held
first_free q held p are some = by (free_among held q.active) q.activated refl refl
  where
    by : (free : List ℕ) (us : List (List Part)) → free_among held q.active ≡ free → q.activated ≡ us → FirstFree q held
    by (r ∷ rs) us f u = process r rs f
    by [] (u ∷ us) f a = update u us f a
    by [] [] f a = absurd (subst (IsIn p) (none_free q held are.released f a) some)

-- it is active and not held back
first_is : (q : Queue) (held rs : List ℕ) (r : ℕ) → free_among held q.active ≡ r ∷ rs → IsIn r q.active × (IsIn r held → ⊥)
first_is q held rs r f = in_free r held q.active (subst (IsIn r) (sym f) (inl refl))

-- ---- while a process is held back

-- what the state holds back
record Holds (s : State) (p : ℕ) : Type 0 where
  held : List ℕ
  is : s.held_back ≡ Some held
  some : IsIn p held
  are : AreHeldBack s.queue held

holds : (s : State) (p : ℕ) → IsKept s → IsHeld s p → Holds s p
holds s p kept held = by s.held_back refl
  where
    at : (o : Option (List ℕ)) → s.held_back ≡ o → IsIn p (unwrap_or o [])
    at o is = subst (λ (x : Option (List ℕ)). IsIn p (unwrap_or x [])) is (contains_in p (held_in s) held)

    by : (o : Option (List ℕ)) → s.held_back ≡ o → Holds s p
    by None is = absurd (at None is)
    by (Some list) is = record { held = list; is = is; some = at (Some list) is; are = kept.held list is }

not_held : (s : State) (held : List ℕ) (r : ℕ) → s.held_back ≡ Some held → (IsIn r held → ⊥) → IsHeld s r → ⊥
not_held s held r is none h = none (subst (λ (o : Option (List ℕ)). IsIn r (unwrap_or o [])) is (contains_in r (held_in s) h))

has_free : (s : State) (p : ℕ) → IsKept s → IsHeld s p → HasFree s
has_free s p kept held = let has = holds s p kept held in by has (first_free s.queue has.held p has.are has.some)
  where
    by : (has : Holds s p) → FirstFree s.queue has.held → HasFree s
    by has (process r rs f) =
        let first = first_is s.queue has.held rs r f in
        inl (r, in_contains r s.queue.active first.0, not_held s has.held r has.is first.1)
    by has (update u us f a) = inr (λ none. let no : u ∷ us ≡ [] = sym a ∙ none in cc)

pub has_free_ones : IsAlwaysKept → (setting : Setting) (log : List (ℕ × ℕ)) (n p : ℕ) →
    IsHeld (state_after setting log n) p → HasFree (state_after setting log n)
has_free_ones keeps setting log n p held = has_free (state_after setting log n) p (keeps setting log n) held

pub is_all_active : IsAlwaysKept → (setting : Setting) (log : List (ℕ × ℕ)) (n p : ℕ) →
    IsHeld (state_after setting log n) p → IsActive (state_after setting log n) p
is_all_active keeps setting log n p held =
    let s = state_after setting log n in
    let has = holds s p (keeps setting log n) held in
    in_contains p s.queue.active (held_in_active s.queue has.held has.are p has.some)

-- ---- what choice 0 takes, where no process goes on

-- the choices where departures may hold back
pub going_on : (s : State) (held : List ℕ) → s.cause ≡ None → s.held_back ≡ Some held →
    choices s ≡ or_advance (taking_or_holding (order_of held s.queue)) s.queue.future
going_on s held goes is = λ k. cond (is_some (goes k)) [] (choices_by (is k) s.queue)

order_none : (held : List ℕ) (q : Queue) (grain : Grain) (last : Option ℕ) → last ≡ None → q.last ≡ None →
    order_by held q grain last ≡ (map Run (free_among held q.active) ++ first_update q.activated) ++ map Run held
order_none held q Process None none nobody = λ k. (map Run (in_order (nobody k) (free_among held q.active)) ++ first_update q.activated) ++ map Run held
order_none held q Process (Some p) none nobody = cc
order_none held q Statement last none nobody = λ k. (map Run (in_order (nobody k) (free_among held q.active)) ++ first_update q.activated) ++ map Run held

front_is : (s : State) (held free : List ℕ) (us : List (List Part)) → s.cause ≡ None → s.held_back ≡ Some held → s.queue.last ≡ None →
    free_among held s.queue.active ≡ free → s.queue.activated ≡ us →
    slice_get (choices s) 0 ≡ slice_get (or_advance (taking_or_holding ((map Run free ++ first_update us) ++ map Run held)) s.queue.future) 0
front_is s held free us goes is nobody f u =
    ap (λ (cs : List Choice). slice_get cs 0) (going_on s held goes is)
    ∙ ap (λ (order : List Choice). slice_get (or_advance (taking_or_holding order) s.queue.future) 0)
    (order_none held s.queue s.queue.grain s.queue.last nobody nobody ∙ (λ k. (map Run (f k) ++ first_update (u k)) ++ map Run held))

pub default_free : (s : State) (p : ℕ) → IsKept s → s.queue.last ≡ None → slice_get (choices s) 0 ≡ Some (Run p) → IsHeld s p → ⊥
default_free s p kept nobody first held = let has = holds s p kept held in by has (first_free s.queue has.held p has.are has.some)
  where
    goes : s.cause ≡ None
    goes = (may_go s 0 (Run p) kept first).0

    by : (has : Holds s p) → FirstFree s.queue has.held → ⊥
    by has (process r rs f) =
        let same : Some (Run r) ≡ Some (Run p) = sym (front_is s has.held (r ∷ rs) s.queue.activated goes has.is nobody f refl) ∙ first in
        let equal : p ≡ r = cc in
        (first_is s.queue has.held rs r f).1 (subst (λ (n : ℕ). IsIn n has.held) equal has.some)
    by has (update u us f a) =
        let same : Some Update ≡ Some (Run p) = sym (front_is s has.held [] (u ∷ us) goes has.is nobody f a) ∙ first in cc

-- ---- and where one does

pub last_first : (s : State) (p : ℕ) → s.cause ≡ None → s.queue.last ≡ Some p → slice_get (choices s) 0 ≡ Some (Run p)
last_first s p goes is =
    ap (λ (cause : Option Cause). slice_get (cond (is_some cause) [] (choices_by s.held_back s.queue)) 0) goes ∙ by s.held_back
  where
    offered : (grain : Grain) → slice_get (or_advance (offered_choices s.queue grain s.queue.last) s.queue.future) 0 ≡ Some (Run p)
    offered Process = ap (λ (last : Option ℕ). slice_get (or_advance (offered_choices s.queue Process last) s.queue.future) 0) is
    offered Statement = ap (λ (last : Option ℕ). slice_get (or_advance (map Run (in_order last s.queue.active) ++ first_update s.queue.activated) s.queue.future) 0) is

    ordered : (held : List ℕ) (grain : Grain) →
        slice_get (or_advance (taking_or_holding (order_by held s.queue grain s.queue.last)) s.queue.future) 0 ≡ Some (Run p)
    ordered held Process = ap (λ (last : Option ℕ). slice_get (or_advance (taking_or_holding (order_by held s.queue Process last)) s.queue.future) 0) is
    ordered held Statement =
        ap (λ (last : Option ℕ).
        slice_get (or_advance (taking_or_holding ((map Run (in_order last (free_among held s.queue.active)) ++ first_update s.queue.activated) ++ map Run held)) s.queue.future) 0) is

    by : (o : Option (List ℕ)) → slice_get (choices_by o s.queue) 0 ≡ Some (Run p)
    by None = offered s.queue.grain
    by (Some held) = ordered held s.queue.grain

pub last_goes_on : (setting : Setting) (log : List (ℕ × ℕ)) (n p : ℕ) →
    (state_after setting log n).cause ≡ None → (state_after setting log n).queue.last ≡ Some p →
    slice_get (choices (state_after setting log n)) 0 ≡ Some (Run p)
last_goes_on setting log n p goes is = last_first (state_after setting log n) p goes is
