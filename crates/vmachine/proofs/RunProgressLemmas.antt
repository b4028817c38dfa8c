-- A run under a log on its way.
use Rattle.std.proofs.Common.{◌≡◌, ◌≢◌, ℕ, ◌+◌, ◌-◌, ◌<◌, ◌≤◌, ◌==◌, true, false, List, [], ◌∷◌, ◌++◌, length, take, Result, Ok, Err, IfErr, IsErrAnd, refl, inl, inr, le_refl, sym, ap, subst, ◌∙◌, add-one, arith}
use Rattle.std.proofs.lemmas.Bool.Decides.{nat_tests}
use Rattle.sched_core.specs.Rules.{stands, choice_at, NamesBelow}
use Rattle.sched_core.specs.Logs.{IsLogFrom}
use Rattle.sched_core.specs.Replay.{IsNextChoice, IsMissing, TakesMore}
use Rattle.sched_core.proofs.RunLemmas.{left_whole, left_next, run_more, ends_too_early}
use Rattle.vmodel.specs.State.{State}
use Rattle.vmodel.specs.Choices.{choices}
use Rattle.vmodel.specs.declared.history.Item.{Item}
use Rattle.sched_core.specs.declared.end.End.{End}
use Rattle.vmodel.specs.Step.{Transition, next, items_of}
use Rattle.vmodel.specs.Run.{Setting, rules_of, opening_of, state_after, items_after, end_of, is_mark}
use Rattle.vmodel.specs.RunProgress.{Finishes, IsOnItsWay, opening_is, width_is, after_is}
use Rattle.basis.specs.declared.memory.OrMemory.{OrMemory}
use Rattle.basis.specs.declared.memory.OrMemory.TheVariants.{Fault, Memory}
use Rattle.vmodel.specs.RulesLaws.{lawful}
use Rattle.vmachine.specs.declared.run.RunFault.{RunFault}
use Rattle.vmachine.specs.declared.run.RunFault.TheVariants.{Replay, Sink}
use Rattle.vmachine.specs.Handed.{IsHanded, IsFailed, LeavesSink}
use Rattle.vmachine.specs.Inner.{IsOfSink, IsAt}

pub at_opening : (setting : Setting) (log : List (ℕ × ℕ)) (steps : ℕ) (state : State) → IsLogFrom 0 log → state ≡ opening_of setting →
    IsAt setting log log steps 0 state
at_opening setting log steps state lawful is = record {
  within = omega arith;
  left = left_whole log lawful;
  run = λ k lt. absurd (omega arith);
  at = is ∙ sym (opening_is setting);
}

module _ (setting : Setting) (log rest : List (ℕ × ℕ)) (steps n : ℕ) (state : State) (here : IsAt setting log rest steps n state) where
  width_here : (rules_of setting).width (stands (rules_of setting) log n) ≡ length (choices state)
  width_here = width_is setting (state_after setting log n) ∙ sym (ap (λ (s : State). length (choices s)) here.at)

  pub finishes : (end : End) → length (choices state) ≡ 0 → (length rest == 0) ≡ true → end ≡ end_of state → Finishes setting log steps n end
  finishes end none nothing is = record {
    within = here.within;
    ends = record {
      run = here.run;
      end = width_here ∙ none;
      names = here.left.names n (le_refl n) (empty_below rest nothing);
    };
    end_is = is ∙ ap end_of here.at;
  }
    where
      empty_below : (members : List (ℕ × ℕ)) → (length members == 0) ≡ true → NamesBelow members n
      empty_below [] e = tt
      empty_below (m ∷ ms) e = absurd (grind (arith, nat_tests))

  pub too_early : length (choices state) ≡ 0 → (length rest == 0) ≡ false → IsMissing (rules_of setting) log steps
  too_early none some = (n, here.within, inl (ends_too_early (rules_of setting) log rest n here.left here.run (width_here ∙ none) some))

  pub takes_more : length (choices state) ≢ 0 → n ≡ steps → TakesMore (rules_of setting) log steps
  takes_more some last = subst (λ (m : ℕ). TakesMore (rules_of setting) log m) last
      (record { run = here.run; goes_on = omega (arith, width_here) })

  module _ (choice : ℕ) (later : List (ℕ × ℕ)) (taken : IsNextChoice rest n choice later) where
    choice_is : choice ≡ choice_at log n
    choice_is = taken.taken ∙ sym (here.left.same n (le_refl n))

    pub no_choice : length (choices state) ≢ 0 → n ≢ steps → length (choices state) ≤ choice → IsMissing (rules_of setting) log steps
    no_choice some more none =
        let within : n ≤ steps = here.within in
        (n, here.within, inr (omega arith, record { run = here.run; goes_on = omega (arith, width_here); missing = omega (arith, width_here, choice_is) }))

    next_is : next setting.design state choice ≡ next setting.design (state_after setting log n) (choice_at log n)
    next_is = ap (λ (s : State). next setting.design s choice) here.at ∙ ap (next setting.design (state_after setting log n)) choice_is

    pub at_next : (after : State) → n ≢ steps → choice < length (choices state) → IsLogFrom (n + 1) later → (next setting.design state choice).state ≡ after →
        IsAt setting log later steps (n + 1) after
    at_next after more lt lawful is = record {
      within = let within : n ≤ steps = here.within in omega arith;
      left = left_next log rest later n choice here.left taken lawful;
      run = run_more (rules_of setting) log n here.run (omega (arith, width_here, choice_is));
      at = sym is ∙ ap (λ (transition : Transition). transition.state) next_is ∙ sym (after_is setting (state_after setting log n) (choice_at log n))
          ∙ ap (stands (rules_of setting) log) (sym (add-one n));
    }

    pub items_next : (transition : Transition) → next setting.design state choice ≡ transition → items_after setting log n ++ items_of setting.design transition ≡ items_after setting log (n + 1)
    items_next transition is =
        ap (λ (t : Transition). items_after setting log n ++ items_of setting.design t) (sym is ∙ next_is)
        ∙ ap (items_after setting log) (sym (add-one n))

pub underway : (setting : Setting) (log rest : List (ℕ × ℕ)) (steps n : ℕ) (state : State) → IsAt setting log rest steps n state → IsOnItsWay setting log steps n
underway setting log rest steps n state here = record { within = here.within; run = here.run }

pub underway_first : (setting : Setting) (log : List (ℕ × ℕ)) (steps : ℕ) → IsOnItsWay setting log steps 0
underway_first setting log steps = record { within = omega arith; run = λ k lt. absurd (omega arith) }

-- ---- what was handed on

-- the first of the items of a run
pub handed_first : {T : Type 0} (takes : T → List Item → T → Type 0) (setting : Setting) (log rest : List (ℕ × ℕ)) (steps n : ℕ) (state : State) (old new : T)
    (handed waiting : List Item) → IsAt setting log rest steps n state → takes old handed new → handed ++ waiting ≡ items_after setting log n →
    IsHanded takes setting log steps old new
handed_first takes setting log rest steps n state old new handed waiting here took is = (
  n,
  length handed,
  underway setting log rest steps n state here,
  subst (λ (items : List Item). takes old items new) (sym (ap (take (length handed)) (sym is) ∙ take_front handed waiting)) took,
)
  where
    take_front : (xs ys : List Item) → take (length xs) (xs ++ ys) ≡ xs
    take_front [] ys = refl
    take_front (x ∷ xs) ys = ap (λ (rest : List Item). x ∷ rest) (take_front xs ys)

-- a fault that `?` hands on, by what it leaves
pub left_by : {R T F : Type 0} (takes : T → List Item → T → Type 0) (fails : T → List Item → F → T → Type 0) (setting : Setting) (log : List (ℕ × ℕ)) (steps : ℕ) (old new : T)
    (result : Result R (OrMemory (RunFault F))) (e : OrMemory (RunFault F)) → IsErrAnd result (λ y. y ≡ e) → LeavesSink takes fails setting log steps old e new →
    IfErr result (λ fault. LeavesSink takes fails setting log steps old fault new)
left_by takes fails setting log steps old new (Ok x) e h left = tt
left_by takes fails setting log steps old new (Err y) e h left = subst (λ (f : OrMemory _). LeavesSink takes fails setting log steps old f new) (sym h) left

-- the sink's own fault
pub sink_left : {T F : Type 0} (takes : T → List Item → T → Type 0) (fails : T → List Item → F → T → Type 0) (setting : Setting) (log : List (ℕ × ℕ)) (steps : ℕ) (old new : T)
    (P : F → Type 0) (e : OrMemory (RunFault F)) → ((f : F) → P f → IsFailed fails setting log steps old f new) → IsOfSink P e →
    LeavesSink takes fails setting log steps old e new
sink_left takes fails setting log steps old new P (Fault (Replay fault)) step h = absurd h
sink_left takes fails setting log steps old new P (Fault (Sink fault)) step h = step fault h
sink_left takes fails setting log steps old new P (Memory m) step h = absurd h

-- at its end a run stands at a mark
pub ended_at_mark : (setting : Setting) (log rest : List (ℕ × ℕ)) (steps n : ℕ) (state : State) (end : End) → IsAt setting log rest steps n state →
    Finishes setting log steps n end → is_mark state ≡ true
unfolding rules_of
ended_at_mark setting log rest steps n state end here done =
    ap is_mark here.at ∙ (lawful setting).end_is_mark (state_after setting log n) done.ends.end

pub less_differs : (m n : ℕ) → m < n → m ≢ n
less_differs m n lt e = absurd (omega (arith, lt, e))

-- each step leaves fewer of those that are allowed
pub fewer_left : (n steps : ℕ) → n < steps → steps - (n + 1) < steps - n
fewer_left n steps lt = omega (arith, lt)
