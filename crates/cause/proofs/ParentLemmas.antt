-- A run and its parent, up to the step that the last member names.
use Rattle.std.proofs.Common.{◌≡◌, ℕ, zero, suc, ◌-◌, ◌==◌, ◌<◌, ◌≤◌, Bool, false, if◌then◌else◌, List, [], ◌∷◌, length, take, Option, Some, None, slice_get, refl, sym, ap, subst, ◌∙◌, arith, Result, IfOk, IfSome}
use Rattle.std.proofs.lemmas.Bool.Decides.{nat_tests}
use Rattle.std.proofs.lemmas.Option.{IfSome_then, same_Some, slice_get_within}
use Rattle.std.proofs.lemmas.Result.{IfOk-weaker}
use Rattle.sched_core.specs.Rules.{choice_at}
use Rattle.vmodel.specs.State.{State}
use Rattle.vmodel.specs.Run.{Setting, rules_of, state_after}
use Rattle.vdesign.specs.Design.{Design}
use Rattle.cause.specs.declared.cause.Cause.{Cause}
use Rattle.cause.specs.declared.slot.Slot.{Slot}
use Rattle.cause.specs.Causes.{AreEarlier, AreVisits, IsCause, IsCauseIn, parent_of, step_named, last_step}

no_choice : (log : List (ℕ × ℕ)) (k : ℕ) → length log ≡ 0 → choice_at log k ≡ 0
no_choice [] k e = refl
no_choice (m ∷ log) k e = absurd (omega (arith, e))

-- before the last member both logs name the same
pub same_choice : (log : List (ℕ × ℕ)) (n : ℕ) (last : ℕ × ℕ) (k : ℕ) → length log ≡ suc n → slice_get log n ≡ Some last → k < last.0 →
    choice_at log k ≡ choice_at (take n log) k
same_choice [] n last k len e lt = absurd (omega (arith, len))
same_choice (m ∷ log) zero last k len e lt =
    let before : k < m.0 = omega (arith, lt, ap (λ (member : ℕ × ℕ). member.0) (same_Some m last e)) in
    let other : (m.0 == k) ≡ false = grind (arith, nat_tests, before) in
    ap (λ (test : Bool). if test then m.1 else choice_at log k) other ∙ no_choice log k (omega (arith, len))
same_choice (m ∷ log) (suc n) last k len e lt =
    ap (λ (choice : ℕ). if m.0 == k then m.1 else choice) (same_choice log n last k (omega (arith, len)) e lt)

pub some_length : (log : List (ℕ × ℕ)) (last : ℕ × ℕ) → slice_get log (length log - 1) ≡ Some last → length log ≡ suc (length log - 1)
some_length log last e = omega (arith, slice_get_within log (length log - 1) last e)

module _ (setting : Setting) (log : List (ℕ × ℕ)) (last : ℕ × ℕ) (e : slice_get log (length log - 1) ≡ Some last) where
  same_to : (n : ℕ) → n ≤ last.0 → state_after setting log n ≡ state_after setting (parent_of log) n
  same_to zero le = refl
  same_to (suc n) le =
      ap (λ (s : State). (rules_of setting).after s (choice_at log n)) (same_to n (omega (arith, le)))
      ∙ ap ((rules_of setting).after (state_after setting (parent_of log) n)) (same_choice log (length log - 1) last n (some_length log last e) e (omega (arith, le)))

pub named : (found : Option (ℕ × ℕ)) (s : ℕ) → step_named found ≡ Some s → (last : ℕ × ℕ) × (found ≡ Some last) × (s ≡ last.0)
named None s e = absurd cc
named (Some last) s e = (last, refl, sym (same_Some last.0 s e))

pub same_before : (setting : Setting) (log : List (ℕ × ℕ)) (s : ℕ) → last_step log ≡ Some s → state_after setting log s ≡ state_after setting (parent_of log) s
same_before setting log s e =
    let (last, found, is) = named (slice_get log (length log - 1)) s e in
    same_to setting log last found s (omega (arith, is))

-- ---- what is told of both slots

abbrev are_seen : Setting → List (ℕ × ℕ) → ℕ → Slot → Type 0
are_seen setting log s slot = AreEarlier setting log s slot.earlier.items × AreVisits setting log s slot.visits.items

abbrev is_told : Design → ℕ → Slot → Slot → Cause → Type 0
is_told design step run parent = IsCauseIn design step run.earlier.items run.visits.items parent.earlier.items parent.visits.items

pub is_cause : (setting : Setting) (log parent_log : List (ℕ × ℕ)) (step : ℕ) (design : Design) (run parent : Slot) (cause : Cause) →
    last_step log ≡ Some step → parent_log ≡ parent_of log → design ≡ setting.design → are_seen setting log step run →
    are_seen setting parent_log step parent → is_told design step run parent cause → IsCause setting log cause
is_cause setting log parent_log step design run parent cause named_so parent_is design_is ours theirs told =
    let same : cause.step ≡ step = ap (λ (c : Cause). c.step) told.told in
    let there : are_seen setting (parent_of log) step parent = subst (λ (l : List (ℕ × ℕ)). are_seen setting l step parent) parent_is theirs in
    let is : last_step log ≡ Some cause.step = named_so ∙ ap Some (sym same) in
    let here : are_seen setting log cause.step run = subst (λ (s : ℕ). are_seen setting log s run) (sym same) ours in
    let other : are_seen setting (parent_of log) cause.step parent = subst (λ (s : ℕ). are_seen setting (parent_of log) s parent) (sym same) there in
    record {
      named = is;
      same = same_before setting log cause.step is;
      run_earlier = run.earlier.items;
      before_run = here.0;
      run = run.visits.items;
      of_run = here.1;
      parent_earlier = parent.earlier.items;
      before_parent = other.0;
      parent = parent.visits.items;
      of_parent = other.1;
      is = subst (λ (d : Design). is_told d cause.step run parent cause) design_is
          (subst (λ (s : ℕ). is_told design s run parent cause) (sym same) told);
    }

pub caused : {E : Type 0} (setting : Setting) (log parent_log : List (ℕ × ℕ)) (step : ℕ) (design : Design) (run parent : Slot)
    (result : Result (Option Cause) E) → last_step log ≡ Some step → parent_log ≡ parent_of log → design ≡ setting.design →
    are_seen setting log step run → are_seen setting parent_log step parent → IfOk result (λ told. IfSome told (is_told design step run parent)) →
    IfOk result (λ told. IfSome told (IsCause setting log))
caused setting log parent_log step design run parent result named_so parent_is design_is ours theirs told =
    IfOk-weaker result (λ told. IfSome told (is_told design step run parent)) (λ told. IfSome told (IsCause setting log))
    (λ found some. IfSome_then found some (λ cause is.
    is_cause setting log parent_log step design run parent cause named_so parent_is design_is ours theirs is)) told
