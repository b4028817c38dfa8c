-- A step of a run is that of one process, and the others stay.
use Rattle.std.proofs.Common.{nat_lt, ◌==◌, not, ◌||◌, ◌≡◌, ◌≢◌, ℕ, ◌<◌, zero, suc, Bool, true, false, if◌then◌else◌, List, [], ◌∷◌, map, slice_get, Option, None, Some, option_map, length, refl, sym, ap, subst, ◌∙◌, arith}
use Rattle.std.proofs.lemmas.Bool.Decides.{nat_tests}
use Rattle.std.specs.Prelude.{slice_set}
use Rattle.vbits.specs.Vectors.{Vector}
use Rattle.vbits.specs.declared.bit4.Bit4.{Bit4}
use Rattle.vbits.specs.declared.bit4.Bit4.TheVariants.{Zero, One, X, Z}
use Rattle.vbits.specs.Equal.{vectors_tell}
use Rattle.vdesign.specs.Design.{Design}
use Rattle.vdesign.specs.declared.action.Action.{Action}
use Rattle.vdesign.specs.declared.action.Action.TheVariants.{Assign, Nonblocking, AssignDelayed, NonblockingDelayed, Trigger, Test, Case, While, Repeat, Forever, Delay, EventControl, Wait, ContinuousAssign, Print, DumpVars, Dump, NoOperation, Finish, Stop}
use Rattle.vdesign.specs.declared.action.Edge.TheVariants.{Any, Rise, Fall}
use Rattle.vdesign.specs.declared.action.Term.{Term}
use Rattle.vdesign.specs.declared.action.Term.TheVariants.{Change, Event}
use Rattle.vvalue.specs.Value.{Environment}
use Rattle.velab_expr.specs.Scopes.{Scope}
use Rattle.sched_core.specs.Rules.{choice_at}
use Rattle.vmodel.specs.declared.choice.Choice.{Choice}
use Rattle.vmodel.specs.declared.choice.Choice.TheVariants.{Run, Update, Advance}
use Rattle.sched_core.specs.declared.end.Cause.{Cause}
use Rattle.vmodel.specs.declared.frame.Frame.{Frame}
use Rattle.vmodel.specs.Choices.{choices}
use Rattle.vmodel.specs.State.{Process, State}
use Rattle.vmodel.specs.Waking.{rank, last_bit, hears, any_hears, has_come, wakes_at, wakes, awake}
use Rattle.vmodel.specs.Parts.{value_in}
use Rattle.vmodel.specs.Kept.{waits_of}
use Rattle.vmodel.specs.declared.effect.Disposition.{Disposition}
use Rattle.vmodel.specs.declared.effect.Disposition.TheVariants.{Runnable, Delayed, Waiting}
use Rattle.vmodel.specs.Step.{Transition, waits_by, StepResult, frames, execute_at, place_of, process_by, continuation_of, held_of, environment_of, with_moves_by, with_step, with_woken, with_update, with_advance, transition_with, action_transition, continuation_transition, process_transition, with_views, transition_by, next}
use Rattle.vmodel.specs.Run.{Setting, opening_process, opening_of, state_after}
use Rattle.vmodel.specs.RunProgress.{opening_is, after_is}
use Rattle.statement_law.specs.TreeSteps.{Pending, TreeStep}
use Rattle.statement_law.specs.Standing.{StandAt, terms_in, suspension_by, tree_effect_of}
use Rattle.statement_law.specs.Laws.{Tells, HasTreeStep}
use Rattle.statement_law.specs.RunLaws.{Standpoint, is_heard, still_waiting, waits_behind, waited_at, IsAt, behind, after_other_step, IsTreeStep, IsSomewhere}
use Rattle.statement_law.proofs.StepLemmas.{follows_trees}

-- ---- lists of processes

get_set : {X : Type 0} (xs : List X) (i : ℕ) (x : X) → i < length xs → slice_get (slice_set xs i x) i ≡ Some x
get_set [] i x lt = absurd (omega arith)
get_set (y ∷ ys) zero x lt = refl
get_set (y ∷ ys) (suc i) x lt = get_set ys i x (omega arith)

get_other : {X : Type 0} (xs : List X) (i j : ℕ) (x : X) → j ≢ i → slice_get (slice_set xs i x) j ≡ slice_get xs j
get_other [] i j x ne = refl
get_other (y ∷ ys) zero zero x ne = absurd (ne refl)
get_other (y ∷ ys) zero (suc j) x ne = refl
get_other (y ∷ ys) (suc i) zero x ne = refl
get_other (y ∷ ys) (suc i) (suc j) x ne = get_other ys i j x (λ e. ne (ap suc e))

there : (processes : List Process) (p : ℕ) (frame : Frame) (rest : List Frame) → continuation_of (slice_get processes p) ≡ frame ∷ rest → p < length processes
there [] p frame rest e = absurd cc
there (r ∷ rs) zero frame rest e = omega arith
there (r ∷ rs) (suc p) frame rest e = let h : p < length rs = there rs p frame rest e in omega (arith, h)

-- ---- waking

-- where nothing changed and nothing is triggered, nothing is heard
still_there : (values : List Vector) (waiting : Option (List Term)) → waiting ≡ still_waiting values values None waiting
still_there values None = refl
still_there values (Some list) = ap (λ b. if b then None else Some list) (sym (all list))
  where
    rank_is : (bit : Bit4) → nat_lt (rank bit) (rank bit) ≡ false
    rank_is Zero = refl
    rank_is One = refl
    rank_is X = refl
    rank_is Z = refl

    one : (term : Term) → hears values values None term ≡ false
    one (Change Any variable) = ap not ((vectors_tell (value_in values variable) (value_in values variable)).1 refl)
    one (Change Rise variable) = rank_is (last_bit (value_in values variable))
    one (Change Fall variable) = rank_is (last_bit (value_in values variable))
    one (Event event) = refl

    all : (terms : List Term) → any_hears values values None terms ≡ false
    all [] = refl
    all (term ∷ terms) = ap (λ b. b || any_hears values values None terms) (one term) ∙ all terms

module _ (old new : List Vector) (triggered : Option ℕ) where
  come_is : (action : Option Action) → has_come action old new triggered ≡ any_hears old new triggered (terms_in action)
  come_is None = refl
  come_is (Some (Assign targets value)) = refl
  come_is (Some (Nonblocking targets value)) = refl
  come_is (Some (AssignDelayed amount targets value)) = refl
  come_is (Some (NonblockingDelayed amount targets value)) = refl
  come_is (Some (Trigger event)) = refl
  come_is (Some (Test condition when_true otherwise)) = refl
  come_is (Some (Case kind value branches otherwise)) = refl
  come_is (Some (While condition body)) = refl
  come_is (Some (Repeat count body)) = refl
  come_is (Some (Forever body)) = refl
  come_is (Some (Delay amount body)) = refl
  come_is (Some (EventControl terms body)) = refl
  come_is (Some (Wait condition terms body)) = refl
  come_is (Some (ContinuousAssign targets value terms)) = refl
  come_is (Some (Print when pieces)) = refl
  come_is (Some (DumpVars selection)) = refl
  come_is (Some (Dump asked)) = refl
  come_is (Some NoOperation) = refl
  come_is (Some Finish) = refl
  come_is (Some Stop) = refl

  wakes_is : (actions : List Action) (waits : Option ℕ) → wakes_at actions old new triggered waits ≡ is_heard old new triggered (waited_at actions waits)
  wakes_is actions None = refl
  wakes_is actions (Some place) = come_is (slice_get actions place)

  -- the same is left, the same is held, and what is heard isn't waited for any more
  record IsWoken (actions : List Action) (one other : Option Process) : Type 0 where
    continuation : continuation_of one ≡ continuation_of other
    held : held_of one ≡ held_of other
    waits : waited_at actions (waits_of one) ≡ still_waiting old new triggered (waited_at actions (waits_of other))

  woken_there : (actions : List Action) (processes : List Process) (p : ℕ) →
      IsWoken actions (slice_get (map (awake (wakes actions old new triggered)) processes) p) (slice_get processes p)
  woken_there actions [] p = record { continuation = refl; held = refl; waits = refl }
  woken_there actions (process ∷ rest) zero = by (wakes actions old new triggered process) (wakes_is actions process.waits)
    where
      by : (test : Bool) → test ≡ is_heard old new triggered (waited_at actions process.waits) →
          IsWoken actions (Some (if test then record process { waits = None } else process)) (Some process)
      by true e = record { continuation = refl; held = refl; waits = ap (λ b. if b then None else waited_at actions process.waits) e }
      by false e = record { continuation = refl; held = refl; waits = ap (λ b. if b then None else waited_at actions process.waits) e }
  woken_there actions (process ∷ rest) (suc p) = woken_there actions rest p

  -- of another that is alike
  woken_by : (actions : List Action) (one other third : Option Process) → IsWoken actions one other → other ≡ third → IsWoken actions one third
  woken_by actions one other third woken e = subst (IsWoken actions one) e woken

unchanged : (values : List Vector) (actions : List Action) (process : Option Process) → IsWoken values values None actions process process
unchanged values actions process = record { continuation = refl; held = refl; waits = still_there values (waited_at actions (waits_of process)) }

module _ (design : Design) (s : State) where
  -- the region moves change no process and no value
  moved : (old : List Vector) (triggered : Option ℕ) (woken t : State) (r : ℕ) → woken.values ≡ t.values → IsWoken old woken.values triggered design.actions (slice_get woken.processes r) (slice_get t.processes r) →
      (cause : Option Cause) →
      IsWoken old (with_moves_by cause woken).values triggered design.actions (slice_get (with_moves_by cause woken).processes r) (slice_get t.processes r)
  moved old triggered woken t r same wakes None = wakes
  moved old triggered woken t r same wakes (Some cause) = wakes

  -- ---- a step of a process

  stepped : (p r : ℕ) (result : StepResult) →
      IsWoken s.values (transition_with design p result s).state.values result.effect.triggered design.actions
      (slice_get (transition_with design p result s).state.processes r) (slice_get (slice_set s.processes p (process_by result)) r)
  stepped p r result =
      let t : State = with_step p result s in
      let woken : State = with_woken design s.values result.effect.triggered t in
      moved s.values result.effect.triggered woken t r refl (woken_there s.values t.values result.effect.triggered design.actions t.processes r) woken.cause

  -- what the process waits for behind it
  waits_is : (scope : Scope) (disposition : Disposition) (left : List Frame) (next : List Pending) → StandAt scope design.actions next left →
      waited_at design.actions (waits_by disposition left) ≡ waits_behind (suspension_by design.actions disposition) next
  waits_is scope Runnable left next stand = refl
  waits_is scope (Delayed amount) left next stand = refl
  waits_is scope (Waiting place) [] [] stand = refl
  waits_is scope (Waiting place) [] (first ∷ rest) stand = absurd stand
  waits_is scope (Waiting place) (frame ∷ after) [] stand = absurd stand
  waits_is scope (Waiting place) (frame ∷ after) (first ∷ rest) stand = refl

  -- where it stands behind it
  placed : (p : ℕ) (scope : Scope) (step : TreeStep) (result : StepResult) → Tells scope design.actions step result → p < length s.processes →
      IsAt design (transition_with design p result s).state p scope (behind s.values (transition_with design p result s).state.values step)
  placed p scope step result tells within =
      let new : List Vector = (transition_with design p result s).state.values in
      let like : IsWoken s.values new result.effect.triggered design.actions (slice_get (transition_with design p result s).state.processes p) (Some (process_by result)) =
      woken_by s.values new result.effect.triggered design.actions _ _ _ (stepped p p result) (get_set s.processes p (process_by result) within) in
      record {
        stands = subst (StandAt scope design.actions step.next) (sym like.continuation) tells.stands;
        holds = like.held ∙ ap (λ d. d.held) tells.effect;
        waits =
            like.waits ∙ ap (λ waiting. still_waiting s.values new result.effect.triggered waiting) (waits_is scope result.effect.disposition result.continuation step.next tells.stands)
            ∙ ap (λ d. still_waiting s.values new d.triggered (waits_behind d.suspension step.next)) tells.effect;
      }

  -- what is held back, and what is printed, is no part of where a process stands
  viewed : (i p : ℕ) (scope : Scope) (c : Choice) (t : Transition) (at : Standpoint) → IsAt design t.state p scope at → IsAt design (with_views design s i c t).state p scope at
  viewed i p scope c t at here = record { stands = here.stands; holds = here.holds; waits = here.waits }

  pub steps_by_trees : (i p : ℕ) (scope : Scope) (at : Standpoint) → slice_get (choices s) i ≡ Some (Run p) → at.pending ≢ [] → IsAt design s p scope at → IsTreeStep design s i p scope at
  steps_by_trees i p scope at chosen some here = by at.pending (continuation_of (slice_get s.processes p)) refl refl
    where
      by : (pending : List Pending) (left : List Frame) → at.pending ≡ pending → continuation_of (slice_get s.processes p) ≡ left → IsTreeStep design s i p scope at
      by [] left none e = absurd (some none)
      by (first ∷ rest) [] same e =
          absurd (subst (StandAt scope design.actions (first ∷ rest)) e (subst (λ list. StandAt scope design.actions list (continuation_of (slice_get s.processes p))) same here.stands))
      by (first ∷ rest) (frame ∷ after) same e =
          let now : Environment = environment_of design s in
          let made : HasTreeStep scope now at.held design.actions at.pending frame after =
          follows_trees scope now at.held design.actions at.pending frame after (subst (StandAt scope design.actions at.pending) e here.stands) in
          let result : StepResult = execute_at frame made.action after at.held now in
          let views : Transition → Transition = with_views design s i (Run p) in
          let is : next design s i ≡ views (transition_with design p result s) =
          ap (λ c. transition_by design s i c) chosen ∙ ap (λ left. views (continuation_transition design p left s)) e
          ∙ ap (λ a. views (action_transition design p frame a after s)) made.there
          ∙ ap (λ value. views (transition_with design p (execute_at frame made.action after value now) s)) here.holds in
          record {
            step = made.step;
            goes_on = made.goes_on;
            effect = ap (λ t. tree_effect_of design.actions t.effect) is ∙ made.tells.effect;
            there =
                subst (λ t. IsAt design t.state p scope (behind s.values t.state.values made.step)) (sym is)
                (viewed i p scope (Run p) (transition_with design p result s) (behind s.values (transition_with design p result s).state.values made.step)
                (placed p scope made.step result made.tells (there s.processes p frame after e)));
          }

  -- ---- a step of anything else

  module _ (r : ℕ) where
    abbrev Woken : Transition → Type 0
    Woken t = IsWoken s.values t.state.values t.effect.triggered design.actions (slice_get t.state.processes r) (slice_get s.processes r)

    continued : (p : ℕ) (left : List Frame) → r ≢ p → Woken (continuation_transition design p left s)
    continued p [] ne = unchanged s.values design.actions (slice_get s.processes r)
    continued p (frame ∷ after) ne = by (slice_get design.actions (place_of frame))
      where
        by : (action : Option Action) → Woken (action_transition design p frame action after s)
        by None = unchanged s.values design.actions (slice_get s.processes r)
        by (Some action) =
            let result : StepResult = execute_at frame action after (held_of (slice_get s.processes p)) (environment_of design s) in
            woken_by s.values (transition_with design p result s).state.values result.effect.triggered design.actions _ _ _ (stepped p r result) (get_other s.processes p r (process_by result) ne)

    others : (i : ℕ) (c : Option Choice) → c ≢ Some (Run r) → Woken (transition_by design s i c)
    others i None ne = unchanged s.values design.actions (slice_get s.processes r)
    others i (Some (Run p)) ne = continued p (continuation_of (slice_get s.processes p)) (λ e. ne (ap (λ q. Some (Run q)) (sym e)))
    others i (Some Update) ne =
        let t : State = with_update s in
        let woken : State = with_woken design s.values None t in
        moved s.values None woken t r refl (woken_there s.values t.values None design.actions t.processes r) woken.cause
    others i (Some Advance) ne =
        let t : State = record s { queue = with_advance s.queue.future s.queue } in
        moved s.values None t t r refl (unchanged s.values design.actions (slice_get s.processes r)) t.cause

  pub stays_else : (i p : ℕ) (scope : Scope) (at : Standpoint) → slice_get (choices s) i ≢ Some (Run p) → IsAt design s p scope at →
      IsAt design (next design s i).state p scope (after_other_step s.values (next design s i).state.values (next design s i).effect.triggered at)
  stays_else i p scope at other here =
      let t : Transition = next design s i in
      let like : IsWoken s.values t.state.values t.effect.triggered design.actions (slice_get t.state.processes p) (slice_get s.processes p) = others p i (slice_get (choices s) i) other in
      record {
        stands = subst (StandAt scope design.actions at.pending) (sym like.continuation) here.stands;
        holds = like.held ∙ here.holds;
        waits = like.waits ∙ ap (λ waiting. still_waiting s.values t.state.values t.effect.triggered waiting) here.waits;
      }

  -- ---- so it stands somewhere again

  -- nothing is left, and it takes no step
  nothing_left : (p : ℕ) → continuation_of (slice_get s.processes p) ≡ [] → process_transition design p s ≡ continuation_transition design p [] s
  nothing_left p e = ap (λ left. continuation_transition design p left s) e

  stands_again : (i p : ℕ) (scope : Scope) → IsSomewhere design s p scope → IsSomewhere design (next design s i).state p scope
  stands_again i p scope here = by (slice_get (choices s) i) refl
    where
      own : slice_get (choices s) i ≡ Some (Run p) → (pending : List Pending) → here.at.pending ≡ pending → IsSomewhere design (next design s i).state p scope
      own chosen (first ∷ rest) same =
          let made : IsTreeStep design s i p scope here.at = steps_by_trees i p scope here.at chosen (λ none. absurd (let no : first ∷ rest ≡ [] = sym same ∙ none in cc)) here.there in
          record { at = behind s.values (next design s i).state.values made.step; there = made.there }
      own chosen [] none = left (continuation_of (slice_get s.processes p)) refl
        where
          left : (frames : List Frame) → continuation_of (slice_get s.processes p) ≡ frames → IsSomewhere design (next design s i).state p scope
          left (frame ∷ after) e =
              absurd (subst (StandAt scope design.actions []) e (subst (λ list. StandAt scope design.actions list (continuation_of (slice_get s.processes p))) none here.there.stands))
          left [] e = record {
            at = here.at;
            there = subst (λ t. IsAt design t.state p scope here.at) (sym (ap (λ c. transition_by design s i c) chosen ∙ ap (with_views design s i (Run p)) (nothing_left p e)))
                (viewed i p scope (Run p) (continuation_transition design p [] s) here.at here.there);
          }

      stays : slice_get (choices s) i ≢ Some (Run p) → IsSomewhere design (next design s i).state p scope
      stays other = record { at = after_other_step s.values (next design s i).state.values (next design s i).effect.triggered here.at; there = stays_else i p scope here.at other here.there }

      run : (q : ℕ) → slice_get (choices s) i ≡ Some (Run q) → (test : Bool) → (q == p) ≡ test → IsSomewhere design (next design s i).state p scope
      run q e true is =
          let n : q ≡ p = grind (arith, nat_tests, is) in
          own (e ∙ ap (λ number. Some (Run number)) n) here.at.pending refl
      run q e false is = stays (λ same. absurd (let n : q ≡ p = cc in grind (arith, nat_tests, is, n)))

      by : (c : Option Choice) → slice_get (choices s) i ≡ c → IsSomewhere design (next design s i).state p scope
      by None e = stays (λ same. absurd cc)
      by (Some Update) e = stays (λ same. absurd cc)
      by (Some Advance) e = stays (λ same. absurd cc)
      by (Some (Run q)) e = run q e (q == p) refl

starts : (processes : List (List ℕ)) (p : ℕ) (places : List ℕ) → slice_get processes p ≡ Some places → slice_get (map opening_process processes) p ≡ Some (opening_process places)
starts [] p places is = absurd cc
starts (x ∷ xs) zero places is = ap (λ o. option_map opening_process o) is
starts (x ∷ xs) (suc p) places is = starts xs p places is

pub stands_throughout : (setting : Setting) (p : ℕ) (scope : Scope) (pending : List Pending) (places : List ℕ) (log : List (ℕ × ℕ)) (n : ℕ) →
    slice_get setting.design.processes p ≡ Some places → StandAt scope setting.design.actions pending (frames places []) →
    IsSomewhere setting.design (state_after setting log n) p scope
stands_throughout setting p scope pending places log zero is stand =
    let begun : slice_get (opening_of setting).processes p ≡ Some (opening_process places) = starts setting.design.processes p places is in
    subst (λ s. IsSomewhere setting.design s p scope) (sym (opening_is setting)) (record {
      at = record { pending = pending; held = None; waiting = None };
      there = record {
        stands = subst (StandAt scope setting.design.actions pending) (sym (ap continuation_of begun)) stand;
        holds = ap held_of begun;
        waits = ap (λ process. waited_at setting.design.actions (waits_of process)) begun;
      };
    })
stands_throughout setting p scope pending places log (suc n) is stand =
    subst (λ s. IsSomewhere setting.design s p scope) (sym (after_is setting (state_after setting log n) (choice_at log n)))
    (stands_again setting.design (state_after setting log n) (choice_at log n) p scope (stands_throughout setting p scope pending places log n is stand))
