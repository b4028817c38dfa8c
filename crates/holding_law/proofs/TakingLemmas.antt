-- A run where departures may hold back is, under another log, one where they only take.
use Rattle.std.proofs.Common.{◌≡◌, ◌⊎◌, inl, inr, ℕ, zero, suc, ◌<◌, ◌≤◌, List, [], ◌∷◌, ◌++◌, length, Some, None, refl, sym, ap, subst, ◌∙◌, arith}
use Rattle.std.specs.Prelude.{slice_get}
use Rattle.std.proofs.lemmas.Bool.{cases_lt}
use Rattle.basis.proofs.Lists.{listed_place}
use Rattle.sched_core.specs.Logs.{IsLog}
use Rattle.sched_core.specs.Rules.{choice_at, IsRun, NamesBelow}
use Rattle.statebook.specs.Inner.Forced.{log_of}
use Rattle.statebook.proofs.NextLemmas.{push_is_log, GoesOnBy, goes_on_by}
use Rattle.vdesign.specs.Design.{Design}
use Rattle.vmodel.specs.declared.choice.Choice.{Choice}
use Rattle.vmodel.specs.State.{State}
use Rattle.vmodel.specs.Choices.{choices}
use Rattle.vmodel.specs.Holding.{held_after}
use Rattle.vmodel.specs.Printed.{printed_after}
use Rattle.vmodel.specs.Step.{Transition, transition_of, with_held_after, with_views, transition_by, next, items_of}
use Rattle.vmodel.specs.Run.{Setting, rules_of, state_after, items_after}
use Rattle.vmodel.specs.RunProgress.{opening_is, width_is, after_is}
use Rattle.plain_steps.specs.RunLaws.{IsAlwaysKept}
use Rattle.holding_law.specs.TakingLaws.{taking, without_held, HasFewChoices, AreAlike, IsTakingRun}
use Rattle.holding_law.proofs.SeenLemmas.{with_seen_after, transition-seen, items-seen}
use Rattle.holding_law.proofs.AmongLemmas.{among, none_too}

-- ---- the same step

same_step : (design : Design) (i j : ℕ) (c : Choice) (s : State) →
    with_views design (without_held s) j c (transition_of design c (without_held s))
    ≡ with_seen_after None (with_views design s i c (transition_of design c s)).state.printed (with_views design s i c (transition_of design c s))
same_step design i j c s =
    let t = transition_of design c s in
    let items : items_of design (with_seen_after None s.printed t) ≡ items_of design (with_held_after s i c t) =
    items-seen None s.printed design t ∙ sym (items-seen (held_after s.held_back s.queue i c t.state.queue) t.state.printed design t) in
    ap (with_views design (without_held s) j c) (transition-seen None s.printed design c s)
    ∙ (λ k. with_seen_after None (printed_after c (items k) s.printed) t)

-- ---- the same run

-- logs that name the same choices of the first n steps
abbrev NameAlike : List (ℕ × ℕ) → List (ℕ × ℕ) → ℕ → Type 0
NameAlike one other n = (k : ℕ) → k < n → choice_at one k ≡ choice_at other k

state_alike : (setting : Setting) (one other : List (ℕ × ℕ)) (n : ℕ) → NameAlike one other n → state_after setting one n ≡ state_after setting other n
state_alike setting one other zero alike = refl
state_alike setting one other (suc n) alike =
    λ k. (rules_of setting).after (state_alike setting one other n (λ j lt. alike j (omega (arith, lt))) k) (alike n (omega arith) k)

items_alike : (setting : Setting) (one other : List (ℕ × ℕ)) (n : ℕ) → NameAlike one other n → items_after setting one n ≡ items_after setting other n
items_alike setting one other zero alike = refl
items_alike setting one other (suc n) alike =
    λ k.
    items_alike setting one other n (λ j lt. alike j (omega (arith, lt))) k
    ++ items_of setting.design (next setting.design (state_alike setting one other n (λ j lt. alike j (omega (arith, lt))) k) (alike n (omega arith) k))

width_alike : (setting : Setting) (one other : List (ℕ × ℕ)) (n : ℕ) → NameAlike one other n →
    (rules_of setting).width (state_after setting one n) ≡ (rules_of setting).width (state_after setting other n)
width_alike setting one other n alike = ap (rules_of setting).width (state_alike setting one other n alike)

-- what is kept of the other log, step by step
record Follows (setting : Setting) (log : List (ℕ × ℕ)) (n : ℕ) (other : List (ℕ × ℕ)) : Type 0 where
  run : IsRun (rules_of (taking setting)) other n
  alike : (k : ℕ) → k ≤ n → AreAlike setting log other k
  names : NamesBelow other n
  log_is : n ≤ 1000000 → HasFewChoices (taking setting) other n → IsLog other

begins : (setting : Setting) (log : List (ℕ × ℕ)) → Follows setting log 0 []
begins setting log = record {
  run = λ k lt. absurd (omega (arith, lt));
  alike = λ k le. let first : 0 ≡ k = omega (arith, le) in subst (AreAlike setting log []) first (record {
    state = opening_is (taking setting) ∙ ap without_held (sym (opening_is setting));
    items = refl;
  });
  names = tt;
  log_is = λ le few. tt;
}

-- the log with the choice of one step more
log_with : (setting : Setting) (log other : List (ℕ × ℕ)) (n j : ℕ) → Follows setting log n other → NamesBelow other n →
    j < (rules_of (taking setting)).width (state_after (taking setting) other n) →
    suc n ≤ 1000000 → HasFewChoices (taking setting) (log_of other n j) (suc n) → IsLog (log_of other n j)
log_with setting log other n j so below lt le few = by j (goes_on_by other n j below) lt few
  where
    shorter : (j : ℕ) → GoesOnBy other (log_of other n j) n j → HasFewChoices (taking setting) (log_of other n j) (suc n) → IsLog other
    shorter j goes few = so.log_is (omega (arith, le)) (λ k less. omega (
      arith,
      few k (omega (arith, less)),
      width_alike (taking setting) (log_of other n j) other k (λ m lower. goes.before m (omega (arith, lower, less))),
    ))

    by : (j : ℕ) → GoesOnBy other (log_of other n j) n j → j < (rules_of (taking setting)).width (state_after (taking setting) other n) →
        HasFewChoices (taking setting) (log_of other n j) (suc n) → IsLog (log_of other n j)
    by zero goes lt few = shorter 0 goes few
    by (suc c) goes lt few =
        push_is_log other n (suc c) (shorter (suc c) goes few) below (omega (arith, le)) (omega arith)
        (omega (arith, lt, few n (omega arith), width_alike (taking setting) (log_of other n (suc c)) other n goes.before))

goes_on : (setting : Setting) (log other : List (ℕ × ℕ)) (n j : ℕ) (c : Choice) → Follows setting log n other →
    slice_get (choices (state_after setting log n)) (choice_at log n) ≡ Some c →
    slice_get (choices (without_held (state_after setting log n))) j ≡ Some c →
    j < length (choices (without_held (state_after setting log n))) → Follows setting log (suc n) (log_of other n j)
goes_on setting log other n j c so here there lt = record {
  run = λ k less. elim (last_or k n less) [
    | inl before ↦ omega (arith, so.run k before, goes.before k before, width_alike (taking setting) new other k (λ m lower. goes.before m (omega (arith, lower, before))))
    | inr now ↦ subst (λ (m : ℕ). choice_at new m < (rules_of (taking setting)).width (state_after (taking setting) new m)) (sym now)
        (omega (arith, wide, goes.at, width_alike (taking setting) new other n goes.before))
  ];
  alike = λ k le. elim (last_or k (suc n) (omega (arith, le))) [
    | inl before ↦ record {
      state = state_alike (taking setting) new other k (λ m lower. goes.before m (omega (arith, lower, before))) ∙ (so.alike k (omega (arith, before))).state;
      items = items_alike (taking setting) new other k (λ m lower. goes.before m (omega (arith, lower, before))) ∙ (so.alike k (omega (arith, before))).items;
    }
    | inr now ↦ subst (AreAlike setting log new) (sym now) then
  ];
  names = goes.names;
  log_is = log_with setting log other n j so so.names wide;
}
  where
    s : State
    s = state_after setting log n

    i : ℕ
    i = choice_at log n

    t : Transition
    t = with_views setting.design s i c (transition_of setting.design c s)

    new : List (ℕ × ℕ)
    new = log_of other n j

    goes : GoesOnBy other new n j
    goes = goes_on_by other n j so.names

    now : AreAlike setting log other n
    now = so.alike n (omega arith)

    wide : j < (rules_of (taking setting)).width (state_after (taking setting) other n)
    wide = omega (
      arith,
      lt,
      width_is (taking setting) (state_after (taking setting) other n),
      ap (λ (x : State). length (choices x)) now.state,
    )

    was : next setting.design s i ≡ t
    was = ap (transition_by setting.design s i) here

    same : next setting.design (state_after (taking setting) new n) (choice_at new n) ≡ with_seen_after None t.state.printed t
    same =
        (λ k. next setting.design ((state_alike (taking setting) new other n goes.before ∙ now.state) k) (goes.at k))
        ∙ ap (transition_by setting.design (without_held s) j) there
        ∙ same_step setting.design i j c s

    then : AreAlike setting log new (suc n)
    then = record {
      state = after_is (taking setting) (state_after (taking setting) new n) (choice_at new n)
          ∙ ap (λ (x : Transition). x.state) same
          ∙ ap (λ (x : Transition). without_held x.state) (sym was)
          ∙ ap without_held (sym (after_is setting s i));
      items = λ k.
          (items_alike (taking setting) new other n goes.before ∙ now.items) k
          ++ (ap (items_of setting.design) same ∙ items-seen None t.state.printed setting.design t ∙ ap (items_of setting.design) (sym was)) k;
    }

    last_or : (k n : ℕ) → k < suc n → (k < n) ⊎ (k ≡ n)
    last_or k n less = elim (cases_lt k n) [ inl lower ↦ inl lower | inr up ↦ inr (omega (arith, less, up)) ]

follows : IsAlwaysKept → (setting : Setting) (log : List (ℕ × ℕ)) (n : ℕ) → IsRun (rules_of setting) log n →
    (other : List (ℕ × ℕ)) × Follows setting log n other
follows keeps setting log zero run = ([], begins setting log)
follows keeps setting log (suc n) run =
    let s = state_after setting log n in
    let before = follows keeps setting log n (λ k lt. run k (omega (arith, lt))) in
    let at = listed_place (choices s) (choice_at log n) (omega (arith, run n (omega arith), width_is setting s)) in
    let there = among s (choice_at log n) at.0 (keeps setting log n) at.1 in (
      log_of before.0 n there.0,
      goes_on setting log before.0 n there.0 at.0 before.1 at.1 there.1 (within (choices (without_held s)) there.0 at.0 there.1),
    )
  where
    within : (cs : List Choice) (j : ℕ) (c : Choice) → slice_get cs j ≡ Some c → j < length cs
    within [] j c is = cc
    within (x ∷ cs) zero c is = omega arith
    within (x ∷ cs) (suc j) c is = omega (arith, within cs j c is)

pub holding_is_taking : IsAlwaysKept → (setting : Setting) (log : List (ℕ × ℕ)) (n : ℕ) → IsRun (rules_of setting) log n →
    (other : List (ℕ × ℕ)) × IsTakingRun setting log n other
holding_is_taking keeps setting log n run =
    let found = follows keeps setting log n run in
    let other = found.0 in
    let so = found.1 in (
      other,
      record {
        run = so.run;
        alike = so.alike;
        ends = λ ends. record {
          run = so.run;
          end = width_is (taking setting) (state_after (taking setting) other n)
              ∙ ap (λ (x : State). length (choices x)) (so.alike n (omega arith)).state
              ∙ none_too (state_after setting log n) (sym (width_is setting (state_after setting log n)) ∙ ends.end);
          names = so.names;
        };
        log_is = so.log_is;
      },
    )
