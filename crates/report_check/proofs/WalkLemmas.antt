-- A walk of the run under a log until it came to such a state and nothing is left of the log.
use Rattle.std.proofs.Common.{◌≡◌, ℕ, ◌+◌, ◌<◌, ◌≤◌, Bool, true, List, [], ◌∷◌, Decides, refl, sym, ◌∙◌, subst, inl, inr, le_refl, add-one, arith}
use Rattle.std.proofs.lemmas.Bool.{cases_lt}
use Rattle.sched_core.specs.Rules.{IsRun, NamesBelow, choice_at}
use Rattle.sched_core.specs.Logs.{IsLogFrom}
use Rattle.sched_core.specs.Replay.{IsNextChoice}
use Rattle.sched_core.proofs.RunLemmas.{IsLeft, run_more}
use Rattle.vmodel.specs.State.{State}
use Rattle.vmodel.specs.Run.{Setting, rules_of, state_after}
use Rattle.vmachine.specs.declared.machine_state.MachineState.{MachineState}
use Rattle.vmachine.specs.Machines.{Stands, machine_rules}
use Rattle.vreport.proofs.EndLemmas.{Alike}
use Rattle.report_check.specs.Claims.{IsSeenBefore, IsSeenWithin, TellsByNow}
use Rattle.report_check.proofs.EndLemmas.{WidthAlike}

abbrev pub AfterAlike : Setting → Type 0
AfterAlike setting = (s : MachineState) (t : State) (i : ℕ) → Stands setting s t → Stands setting ((machine_rules setting).after s i) ((rules_of setting).after t i)

module _ (setting : Setting) (log rest later : List (ℕ × ℕ)) (n choice : ℕ) (left : IsLeft log rest n) (taken : IsNextChoice rest n choice later) where
  pub choice_is : choice ≡ choice_at log n
  choice_is = taken.taken ∙ sym (left.same n (le_refl n))

  module _ (wide : WidthAlike setting) (s : MachineState) (at : Stands setting s (state_after setting log n)) where
    width_is : (machine_rules setting).width s ≡ (rules_of setting).width (state_after setting log n)
    width_is = wide s (state_after setting log n) at

    -- the choice isn't there
    pub stuck : (machine_rules setting).width s ≤ choice → (rules_of setting).width (state_after setting log n) ≤ choice_at log n
    stuck le = omega (arith, le, width_is, choice_is)

    pub runs_on : IsRun (rules_of setting) log n → choice < (machine_rules setting).width s → IsRun (rules_of setting) log (n + 1)
    runs_on run lt = run_more (rules_of setting) log n run (omega (arith, lt, width_is, choice_is))

    -- the next state
    pub stands_on : Alike setting → AfterAlike setting → (next : MachineState) → (machine_rules setting).same next ((machine_rules setting).after s choice) ≡ true →
        Stands setting next (state_after setting log (n + 1))
    stands_on alike after next same =
        let here : Stands setting next ((rules_of setting).after (state_after setting log n) choice) =
        alike ((machine_rules setting).after s choice) next ((rules_of setting).after (state_after setting log n) choice) (after s (state_after setting log n) choice at) same in
        subst (λ (k : ℕ). Stands setting next (state_after setting log k)) (sym (add-one n))
        (subst (λ (i : ℕ). Stands setting next ((rules_of setting).after (state_after setting log n) i)) choice_is here)

-- more steps reach as much of the log
names_up : (log : List (ℕ × ℕ)) (m n : ℕ) → m ≤ n → NamesBelow log m → NamesBelow log n
names_up [] m n le names = tt
names_up (e ∷ log) m n le names = (omega (arith, le, names.0), names_up log m n le names.1)

-- nothing is left that lies below the next step
none_left : (n : ℕ) (rest : List (ℕ × ℕ)) → IsLogFrom n rest → NamesBelow rest n → rest ≡ []
none_left n [] lawful names = refl
none_left n (m ∷ rest) lawful names = absurd (omega (arith, lawful.0, names.0))

module _ (setting : Setting) (limit : ℕ) (P : State → Type 0) (log rest : List (ℕ × ℕ)) (n : ℕ) where
  abbrev Before : ℕ → Type 0
  Before k = IsSeenBefore setting P log k

  -- one more state was looked at
  pub seen_by_now : (found now : Bool) (s : MachineState) → Stands setting s (state_after setting log n) → Decides found (Before n) →
      TellsByNow found setting s P now → Decides now (Before (n + 1))
  seen_by_now found now s at before tells =
      let d = tells (state_after setting log n) at in (
        λ h. elim (d.0 h) [
          | inl earlier ↦ (let b = before.0 earlier in record { at = b.at; earlier = (let e = b.earlier in omega (arith, e)); seen = b.seen })
          | inr here ↦ record { at = n; earlier = omega arith; seen = here }
        ],
        λ b. d.1 (elim (cases_lt b.at n) [
          | inl earlier ↦ inl (before.1 (record { at = b.at; earlier = earlier; seen = b.seen }))
          | inr late ↦ (let e : b.at ≡ n = (let h = b.earlier in omega (arith, h, late)) in
              inr (subst (λ (k : ℕ). P (state_after setting log k)) e b.seen))
        ]),
      )

  module _ (left : IsLeft log rest n) (now : Bool) (before : Decides now (Before (n + 1))) where
    -- all has come
    pub has_come : IsRun (rules_of setting) log n → n ≤ limit → now ≡ true → rest ≡ [] → IsSeenWithin setting limit P log
    has_come run within found none = record {
      steps = n;
      run = run;
      names = left.names n (le_refl n) (subst (λ (l : List (ℕ × ℕ)). NamesBelow l n) (sym none) tt);
      within = within;
      before = before.0 found;
    }

    module _ (not_all : ((now ≡ true) × (rest ≡ []) → ⊥)) where
      -- so many steps don't do
      not_yet : (w : IsSeenWithin setting limit P log) → w.steps ≤ n → ⊥
      not_yet w le = not_all (
        before.1 (let b = w.before in record { at = b.at; earlier = (let e = b.earlier in omega (arith, e, le)); seen = b.seen }),
        none_left n rest left.lawful (left.names_back n (names_up log w.steps n le w.names)),
      )

      -- no more steps are allowed
      pub never_within : n ≡ limit → IsSeenWithin setting limit P log → ⊥
      never_within last w = not_yet w (let h = w.within in omega (arith, h, last))

      -- the run doesn't go on
      pub never_on : (rules_of setting).width (state_after setting log n) ≤ choice_at log n → IsSeenWithin setting limit P log → ⊥
      never_on stuck w = elim (cases_lt n w.steps) [
        | inl on ↦ (let has = w.run n on in omega (arith, has, stuck))
        | inr here ↦ not_yet w here
      ]
