-- Counters: each that says that turns are left is that of a `repeat` which a process has left.
use Rattle.std.proofs.Common.{◌≡◌, ◌≢◌, inl, inr, ℕ, zero, suc, ◌+◌, ◌-◌, ◌<◌, nat_le, Bool, true, false, if◌then◌else◌, List, [], ◌∷◌, ◌++◌, length, map, Option, None, Some, option_map, refl, sym, ap, subst, ◌∙◌, arith}
use Rattle.std.specs.Prelude.{slice_get, slice_set, unwrap_or}
use Rattle.std.specs.List.{Contains}
use Rattle.std.proofs.lemmas.List.Elements.{Contains-append_left, Contains-append_right}
use Rattle.vbits.specs.Vectors.{Vector}
use Rattle.vcode.specs.Code.{Code, counter_at, turns_by, with_counter}
use Rattle.vdesign.specs.Design.{Design}
use Rattle.vdesign.specs.declared.action.Action.{Action}
use Rattle.vdesign.specs.declared.action.Action.TheVariants.{Assign, Nonblocking, AssignDelayed, NonblockingDelayed, Trigger, Test, Case, While, Repeat, Forever, Delay, EventControl, Wait, ContinuousAssign, Print, DumpVars, Dump, NoOperation, Finish, Stop}
use Rattle.vvalue.specs.Value.{Environment}
use Rattle.vvalue.specs.Cases.{turns_of}
use Rattle.vmodel.specs.declared.frame.Frame.{Frame}
use Rattle.vmodel.specs.declared.frame.Frame.TheVariants.{Executing, Repeating, Writing}
use Rattle.vmodel.specs.State.{Process}
use Rattle.vmodel.specs.Step.{frames, turns_left, execute_at, continuation_of}
use Rattle.vmodel.specs.Waking.{awake}
use Rattle.vmodel.proofs.MovedLemmas.{get-set_same, get-set_other}
use Rattle.vmodel.proofs.PlaceLemmas.{alike}
use Rattle.vcompile.specs.Links.{is_repeat, counter_by, next_counter, counters_from, links_of}
use Rattle.vcompile.specs.CodeOf.{no_code, code_by, code_of}
use Rattle.vcompile.specs.Laws.{IsCounted, turns_behind, HasCounters}
use Rattle.vflat.specs.Flat.{left_in, AreCounted, counter_count}
use Rattle.vflat.proofs.WakeLemmas.{listed_first, listed_later, listed_cases}
use Rattle.vmodel.proofs.AwakeLemmas.{get_awake}

-- ---- numbers of counters

below_by : (action : Bool) (n counter : ℕ) (more : ℕ) → counter_by action n ≡ Some counter → counter < n + counter_count (counter_by action n ∷ []) + more
below_by true n counter more e = let same : n ≡ counter = cc in omega (arith, same)
below_by false n counter more e = absurd cc

count_by : (action : Bool) (n : ℕ) (xs : List (Option ℕ)) → counter_count (counter_by action n ∷ xs) ≡ counter_count (counter_by action n ∷ []) + counter_count xs
count_by true n xs = omega arith
count_by false n xs = omega arith

next_by : (action : Bool) (n : ℕ) → next_counter action n ≡ n + counter_count (counter_by action n ∷ [])
next_by true n = omega arith
next_by false n = omega arith

counters_below : (n : ℕ) (actions : List Action) (place counter : ℕ) → unwrap_or (slice_get (counters_from n actions) place) None ≡ Some counter →
    counter < n + counter_count (counters_from n actions)
counters_below n [] place counter e = absurd cc
counters_below n (action ∷ more) zero counter e =
    omega (
      arith,
      below_by (is_repeat action) n counter (counter_count (counters_from (next_counter (is_repeat action) n) more)) e,
      count_by (is_repeat action) n (counters_from (next_counter (is_repeat action) n) more),
    )
counters_below n (action ∷ more) (suc place) counter e =
    omega (
      arith,
      counters_below (next_counter (is_repeat action) n) more place counter e,
      count_by (is_repeat action) n (counters_from (next_counter (is_repeat action) n) more),
      next_by (is_repeat action) n,
    )

below_in : (design : Design) (test : Bool) (place counter : ℕ) →
    unwrap_or (slice_get (if test then code_by design (links_of design) else no_code).counters place) None ≡ Some counter →
    counter < counter_count (if test then code_by design (links_of design) else no_code).counters
below_in design true place counter e = let h : counter < counter_count (counters_from 0 design.actions) = omega (arith, counters_below 0 design.actions place counter e) in h
below_in design false place counter e = absurd cc

counter_below : (design : Design) (place counter : ℕ) → counter_at (code_of design) place ≡ Some counter → counter < counter_count (code_of design).counters
unfolding code_of
counter_below design place counter e = below_in design (nat_le (length design.actions) 4294967295) place counter e

pub enough_counters : (design : Design) (turns : List ℕ) → length turns ≡ counter_count (code_of design).counters → HasCounters (code_of design) turns
enough_counters design turns many = λ place counter e. omega (arith, many, counter_below design place counter e)

-- ---- one counter set

set_same : (turns : List ℕ) (counter n : ℕ) → turns_by (slice_set turns counter n) (Some counter) ≢ 0 → n ≢ 0
set_same [] counter n some = λ none. absurd (some refl)
set_same (t ∷ turns) zero n some = some
set_same (t ∷ turns) (suc counter) n some = set_same turns counter n some

set_else : (turns : List ℕ) (counter other n : ℕ) → counter ≢ other → turns_by (slice_set turns counter n) (Some other) ≡ turns_by turns (Some other)
set_else [] counter other n ne = refl
set_else (t ∷ turns) zero zero n ne = absurd (ne refl)
set_else (t ∷ turns) zero (suc other) n ne = refl
set_else (t ∷ turns) (suc counter) zero n ne = refl
set_else (t ∷ turns) (suc counter) (suc other) n ne = set_else turns counter other n (λ e. ne (ap suc e))

-- ---- what a process has left

in_frames : (places : List ℕ) (after : List Frame) (x : Frame) → Contains after x → Contains (frames places after) x
in_frames [] after x h = h
in_frames (place ∷ places) after x h = listed_later (Executing place) (frames places after) x (in_frames places after x h)

in_turns : (place n : ℕ) → n ≢ 0 → Contains (turns_left place n []) (Repeating place n)
in_turns place zero some = absurd (some refl)
in_turns place (suc n) some = listed_first (Repeating place (suc n)) []

-- the counters after a step of a process, of which this has come to stand before what it had left
module _ (code : Code) (turns : List ℕ) (processes : List Process) (p : ℕ) (q : Process) (frame : Frame) (after heads : List Frame)
    (left : left_in processes p ≡ frame ∷ after) (lt : p < length processes) (is : q.continuation ≡ heads ++ after)
    (counted : AreCounted code turns processes) where
  here_is : left_in (slice_set processes p q) p ≡ heads ++ after
  here_is = ap continuation_of (get-set_same processes p q lt) ∙ is

  -- a frame that isn't the one that was done is left still
  still_left : (process place n : ℕ) → Contains (left_in processes process) (Repeating place n) → (Repeating place n ≡ frame → process ≡ p → ⊥) →
      Contains (left_in (slice_set processes p q) process) (Repeating place n)
  still_left process place n there other = elim (alike process p) [
    | inl e ↦
        let at_p : Contains (frame ∷ after) (Repeating place n) = subst (λ xs. Contains xs (Repeating place n)) (ap (left_in processes) e ∙ left) there in
        subst (λ xs. Contains xs (Repeating place n)) (sym (ap (left_in (slice_set processes p q)) e ∙ here_is))
        (elim (listed_cases frame after (Repeating place n) at_p) [
          | inl same ↦ absurd (other same e)
          | inr later ↦ Contains-append_right heads after (Repeating place n) later
        ])
    | inr ne ↦ subst (λ xs. Contains xs (Repeating place n)) (sym (ap continuation_of (get-set_other processes p process q ne))) there
  ]

  -- where no turns change
  same_counters : ((place n : ℕ) → Repeating place n ≡ frame → Contains heads (Repeating place n)) → AreCounted code turns (slice_set processes p q)
  same_counters comes_again counter some =
      let c = counted counter some in
      record {
        process = c.process;
        place = c.place;
        n = c.n;
        there = by c.process c.place c.n c.there;
        counter_is = c.counter_is;
      }
    where
      by : (process place n : ℕ) → Contains (left_in processes process) (Repeating place n) → Contains (left_in (slice_set processes p q) process) (Repeating place n)
      by process place n there = elim (alike process p) [
        | inl e ↦
            let at_p : Contains (frame ∷ after) (Repeating place n) = subst (λ xs. Contains xs (Repeating place n)) (ap (left_in processes) e ∙ left) there in
            subst (λ xs. Contains xs (Repeating place n)) (sym (ap (left_in (slice_set processes p q)) e ∙ here_is))
            (elim (listed_cases frame after (Repeating place n) at_p) [
              | inl same ↦ Contains-append_left heads after (Repeating place n) (comes_again place n same)
              | inr later ↦ Contains-append_right heads after (Repeating place n) later
            ])
        | inr ne ↦ subst (λ xs. Contains xs (Repeating place n)) (sym (ap continuation_of (get-set_other processes p process q ne))) there
      ]

  -- where those of a place change, of which so many are left
  set_counters_by : (place n : ℕ) → (n ≢ 0 → Contains heads (Repeating place n)) → ((other m : ℕ) → Repeating other m ≡ frame → other ≡ place) →
      (own : Option ℕ) → counter_at code place ≡ own → ((other m : ℕ) → own ≡ None → Repeating other m ≡ frame → ⊥) →
      AreCounted code (with_counter own n turns) (slice_set processes p q)
  set_counters_by place n comes_again same_place None e never counter some =
      let c = counted counter some in
      record {
        process = c.process;
        place = c.place;
        n = c.n;
        there = still_left c.process c.place c.n c.there (λ same at_p. never c.place c.n refl same);
        counter_is = c.counter_is;
      }
  set_counters_by place n comes_again same_place (Some own) e never counter some = elim (alike own counter) [
    | inl same ↦
        let left_some : n ≢ 0 = set_same turns own n (subst (λ m. turns_by (slice_set turns own n) (Some m) ≢ 0) (sym same) some) in
        record {
          process = p;
          place = place;
          n = n;
          there = subst (λ xs. Contains xs (Repeating place n)) (sym here_is) (Contains-append_left heads after (Repeating place n) (comes_again left_some));
          counter_is = e ∙ ap Some same;
        }
    | inr ne ↦
        let c = counted counter (λ none. some (set_else turns own counter n ne ∙ none)) in
        record {
          process = c.process;
          place = c.place;
          n = c.n;
          there = still_left c.process c.place c.n c.there (λ same at_p. ne (some_same own counter (sym e ∙ ap (counter_at code) (sym (same_place c.place c.n same)) ∙ c.counter_is)));
          counter_is = c.counter_is;
        }
  ]
    where
      some_same : (a b : ℕ) → Some a ≡ Some b → a ≡ b
      some_same a b same = cc

same_place : (other m place n : ℕ) → Repeating other m ≡ Repeating place n → other ≡ place
same_place other m place n e = cc

no_counter : (code : Code) (turns : List ℕ) (place n : ℕ) → counter_at code place ≡ None → IsCounted code turns (Repeating place n) → ⊥
no_counter code turns place n none one =
    let left : 0 ≡ n = sym (ap (turns_by turns) none) ∙ one.1 in
    absurd (omega (arith, left, one.0))

-- the counters are those of what is left behind each step
pub counted_behind : (code : Code) (turns : List ℕ) (processes : List Process) (p : ℕ) (q : Process) (frame : Frame) (after : List Frame) (action : Action) (held : Option Vector) (now : Environment) →
    left_in processes p ≡ frame ∷ after → p < length processes → q.continuation ≡ (execute_at frame action [] held now).continuation ++ after →
    IsCounted code turns frame → AreCounted code turns processes → AreCounted code (turns_behind code frame action now turns) (slice_set processes p q)
counted_behind code turns processes p q (Executing place) after (Assign targets value) held now left lt is one counted =
    same_counters code turns processes p q (Executing place) after (execute_at (Executing place) (Assign targets value) [] held now).continuation left lt is counted (λ other m e. absurd cc)
counted_behind code turns processes p q (Executing place) after (Nonblocking targets value) held now left lt is one counted =
    same_counters code turns processes p q (Executing place) after (execute_at (Executing place) (Nonblocking targets value) [] held now).continuation left lt is counted (λ other m e. absurd cc)
counted_behind code turns processes p q (Executing place) after (AssignDelayed amount targets value) held now left lt is one counted =
    same_counters code turns processes p q (Executing place) after (execute_at (Executing place) (AssignDelayed amount targets value) [] held now).continuation left lt is counted (λ other m e. absurd cc)
counted_behind code turns processes p q (Executing place) after (NonblockingDelayed amount targets value) held now left lt is one counted =
    same_counters code turns processes p q (Executing place) after (execute_at (Executing place) (NonblockingDelayed amount targets value) [] held now).continuation left lt is counted (λ other m e. absurd cc)
counted_behind code turns processes p q (Executing place) after (Trigger event) held now left lt is one counted =
    same_counters code turns processes p q (Executing place) after (execute_at (Executing place) (Trigger event) [] held now).continuation left lt is counted (λ other m e. absurd cc)
counted_behind code turns processes p q (Executing place) after (Test condition when_true otherwise) held now left lt is one counted =
    same_counters code turns processes p q (Executing place) after (execute_at (Executing place) (Test condition when_true otherwise) [] held now).continuation left lt is counted (λ other m e. absurd cc)
counted_behind code turns processes p q (Executing place) after (Case kind value branches otherwise) held now left lt is one counted =
    same_counters code turns processes p q (Executing place) after (execute_at (Executing place) (Case kind value branches otherwise) [] held now).continuation left lt is counted (λ other m e. absurd cc)
counted_behind code turns processes p q (Executing place) after (While condition body) held now left lt is one counted =
    same_counters code turns processes p q (Executing place) after (execute_at (Executing place) (While condition body) [] held now).continuation left lt is counted (λ other m e. absurd cc)
counted_behind code turns processes p q (Executing place) after (Repeat count body) held now left lt is one counted =
    set_counters_by code turns processes p q (Executing place) after (execute_at (Executing place) (Repeat count body) [] held now).continuation left lt is counted place (turns_of now count)
    (in_turns place (turns_of now count)) (λ other m e. absurd cc) (counter_at code place) refl (λ other m none e. absurd cc)
counted_behind code turns processes p q (Executing place) after (Forever body) held now left lt is one counted =
    same_counters code turns processes p q (Executing place) after (execute_at (Executing place) (Forever body) [] held now).continuation left lt is counted (λ other m e. absurd cc)
counted_behind code turns processes p q (Executing place) after (Delay amount body) held now left lt is one counted =
    same_counters code turns processes p q (Executing place) after (execute_at (Executing place) (Delay amount body) [] held now).continuation left lt is counted (λ other m e. absurd cc)
counted_behind code turns processes p q (Executing place) after (EventControl terms body) held now left lt is one counted =
    same_counters code turns processes p q (Executing place) after (execute_at (Executing place) (EventControl terms body) [] held now).continuation left lt is counted (λ other m e. absurd cc)
counted_behind code turns processes p q (Executing place) after (Wait condition terms body) held now left lt is one counted =
    same_counters code turns processes p q (Executing place) after (execute_at (Executing place) (Wait condition terms body) [] held now).continuation left lt is counted (λ other m e. absurd cc)
counted_behind code turns processes p q (Executing place) after (ContinuousAssign targets value terms) held now left lt is one counted =
    same_counters code turns processes p q (Executing place) after (execute_at (Executing place) (ContinuousAssign targets value terms) [] held now).continuation left lt is counted (λ other m e. absurd cc)
counted_behind code turns processes p q (Executing place) after (Print when pieces) held now left lt is one counted =
    same_counters code turns processes p q (Executing place) after (execute_at (Executing place) (Print when pieces) [] held now).continuation left lt is counted (λ other m e. absurd cc)
counted_behind code turns processes p q (Executing place) after (DumpVars selection) held now left lt is one counted =
    same_counters code turns processes p q (Executing place) after (execute_at (Executing place) (DumpVars selection) [] held now).continuation left lt is counted (λ other m e. absurd cc)
counted_behind code turns processes p q (Executing place) after (Dump switch) held now left lt is one counted =
    same_counters code turns processes p q (Executing place) after (execute_at (Executing place) (Dump switch) [] held now).continuation left lt is counted (λ other m e. absurd cc)
counted_behind code turns processes p q (Executing place) after NoOperation held now left lt is one counted =
    same_counters code turns processes p q (Executing place) after (execute_at (Executing place) NoOperation [] held now).continuation left lt is counted (λ other m e. absurd cc)
counted_behind code turns processes p q (Executing place) after Finish held now left lt is one counted =
    same_counters code turns processes p q (Executing place) after (execute_at (Executing place) Finish [] held now).continuation left lt is counted (λ other m e. absurd cc)
counted_behind code turns processes p q (Executing place) after Stop held now left lt is one counted =
    same_counters code turns processes p q (Executing place) after (execute_at (Executing place) Stop [] held now).continuation left lt is counted (λ other m e. absurd cc)
counted_behind code turns processes p q (Repeating place n) after (Assign targets value) held now left lt is one counted =
    same_counters code turns processes p q (Repeating place n) after (execute_at (Repeating place n) (Assign targets value) [] held now).continuation left lt is counted
    (λ other m e. subst (λ x. Contains (Repeating place n ∷ []) x) (sym e) (listed_first (Repeating place n) []))
counted_behind code turns processes p q (Repeating place n) after (Nonblocking targets value) held now left lt is one counted =
    same_counters code turns processes p q (Repeating place n) after (execute_at (Repeating place n) (Nonblocking targets value) [] held now).continuation left lt is counted
    (λ other m e. subst (λ x. Contains (Repeating place n ∷ []) x) (sym e) (listed_first (Repeating place n) []))
counted_behind code turns processes p q (Repeating place n) after (AssignDelayed amount targets value) held now left lt is one counted =
    same_counters code turns processes p q (Repeating place n) after (execute_at (Repeating place n) (AssignDelayed amount targets value) [] held now).continuation left lt is counted
    (λ other m e. subst (λ x. Contains (Repeating place n ∷ []) x) (sym e) (listed_first (Repeating place n) []))
counted_behind code turns processes p q (Repeating place n) after (NonblockingDelayed amount targets value) held now left lt is one counted =
    same_counters code turns processes p q (Repeating place n) after (execute_at (Repeating place n) (NonblockingDelayed amount targets value) [] held now).continuation left lt is counted
    (λ other m e. subst (λ x. Contains (Repeating place n ∷ []) x) (sym e) (listed_first (Repeating place n) []))
counted_behind code turns processes p q (Repeating place n) after (Trigger event) held now left lt is one counted =
    same_counters code turns processes p q (Repeating place n) after (execute_at (Repeating place n) (Trigger event) [] held now).continuation left lt is counted
    (λ other m e. subst (λ x. Contains (Repeating place n ∷ []) x) (sym e) (listed_first (Repeating place n) []))
counted_behind code turns processes p q (Repeating place n) after (Test condition when_true otherwise) held now left lt is one counted =
    same_counters code turns processes p q (Repeating place n) after (execute_at (Repeating place n) (Test condition when_true otherwise) [] held now).continuation left lt is counted
    (λ other m e. subst (λ x. Contains (Repeating place n ∷ []) x) (sym e) (listed_first (Repeating place n) []))
counted_behind code turns processes p q (Repeating place n) after (Case kind value branches otherwise) held now left lt is one counted =
    same_counters code turns processes p q (Repeating place n) after (execute_at (Repeating place n) (Case kind value branches otherwise) [] held now).continuation left lt is counted
    (λ other m e. subst (λ x. Contains (Repeating place n ∷ []) x) (sym e) (listed_first (Repeating place n) []))
counted_behind code turns processes p q (Repeating place n) after (While condition body) held now left lt is one counted =
    same_counters code turns processes p q (Repeating place n) after (execute_at (Repeating place n) (While condition body) [] held now).continuation left lt is counted
    (λ other m e. subst (λ x. Contains (Repeating place n ∷ []) x) (sym e) (listed_first (Repeating place n) []))
counted_behind code turns processes p q (Repeating place n) after (Repeat count body) held now left lt is one counted =
    set_counters_by code turns processes p q (Repeating place n) after (execute_at (Repeating place n) (Repeat count body) [] held now).continuation left lt is counted place (n - 1)
    (λ some. in_frames body (turns_left place (n - 1) []) (Repeating place (n - 1)) (in_turns place (n - 1) some)) (λ other m e. same_place other m place n e) (counter_at code place) refl
    (λ other m none e. no_counter code turns place n none one)
counted_behind code turns processes p q (Repeating place n) after (Forever body) held now left lt is one counted =
    same_counters code turns processes p q (Repeating place n) after (execute_at (Repeating place n) (Forever body) [] held now).continuation left lt is counted
    (λ other m e. subst (λ x. Contains (Repeating place n ∷ []) x) (sym e) (listed_first (Repeating place n) []))
counted_behind code turns processes p q (Repeating place n) after (Delay amount body) held now left lt is one counted =
    same_counters code turns processes p q (Repeating place n) after (execute_at (Repeating place n) (Delay amount body) [] held now).continuation left lt is counted
    (λ other m e. subst (λ x. Contains (Repeating place n ∷ []) x) (sym e) (listed_first (Repeating place n) []))
counted_behind code turns processes p q (Repeating place n) after (EventControl terms body) held now left lt is one counted =
    same_counters code turns processes p q (Repeating place n) after (execute_at (Repeating place n) (EventControl terms body) [] held now).continuation left lt is counted
    (λ other m e. subst (λ x. Contains (Repeating place n ∷ []) x) (sym e) (listed_first (Repeating place n) []))
counted_behind code turns processes p q (Repeating place n) after (Wait condition terms body) held now left lt is one counted =
    same_counters code turns processes p q (Repeating place n) after (execute_at (Repeating place n) (Wait condition terms body) [] held now).continuation left lt is counted
    (λ other m e. subst (λ x. Contains (Repeating place n ∷ []) x) (sym e) (listed_first (Repeating place n) []))
counted_behind code turns processes p q (Repeating place n) after (ContinuousAssign targets value terms) held now left lt is one counted =
    same_counters code turns processes p q (Repeating place n) after (execute_at (Repeating place n) (ContinuousAssign targets value terms) [] held now).continuation left lt is counted
    (λ other m e. subst (λ x. Contains (Repeating place n ∷ []) x) (sym e) (listed_first (Repeating place n) []))
counted_behind code turns processes p q (Repeating place n) after (Print when pieces) held now left lt is one counted =
    same_counters code turns processes p q (Repeating place n) after (execute_at (Repeating place n) (Print when pieces) [] held now).continuation left lt is counted
    (λ other m e. subst (λ x. Contains (Repeating place n ∷ []) x) (sym e) (listed_first (Repeating place n) []))
counted_behind code turns processes p q (Repeating place n) after (DumpVars selection) held now left lt is one counted =
    same_counters code turns processes p q (Repeating place n) after (execute_at (Repeating place n) (DumpVars selection) [] held now).continuation left lt is counted
    (λ other m e. subst (λ x. Contains (Repeating place n ∷ []) x) (sym e) (listed_first (Repeating place n) []))
counted_behind code turns processes p q (Repeating place n) after (Dump switch) held now left lt is one counted =
    same_counters code turns processes p q (Repeating place n) after (execute_at (Repeating place n) (Dump switch) [] held now).continuation left lt is counted
    (λ other m e. subst (λ x. Contains (Repeating place n ∷ []) x) (sym e) (listed_first (Repeating place n) []))
counted_behind code turns processes p q (Repeating place n) after NoOperation held now left lt is one counted =
    same_counters code turns processes p q (Repeating place n) after (execute_at (Repeating place n) NoOperation [] held now).continuation left lt is counted
    (λ other m e. subst (λ x. Contains (Repeating place n ∷ []) x) (sym e) (listed_first (Repeating place n) []))
counted_behind code turns processes p q (Repeating place n) after Finish held now left lt is one counted =
    same_counters code turns processes p q (Repeating place n) after (execute_at (Repeating place n) Finish [] held now).continuation left lt is counted
    (λ other m e. subst (λ x. Contains (Repeating place n ∷ []) x) (sym e) (listed_first (Repeating place n) []))
counted_behind code turns processes p q (Repeating place n) after Stop held now left lt is one counted =
    same_counters code turns processes p q (Repeating place n) after (execute_at (Repeating place n) Stop [] held now).continuation left lt is counted
    (λ other m e. subst (λ x. Contains (Repeating place n ∷ []) x) (sym e) (listed_first (Repeating place n) []))
counted_behind code turns processes p q (Writing place) after (Assign targets value) held now left lt is one counted =
    same_counters code turns processes p q (Writing place) after (execute_at (Writing place) (Assign targets value) [] held now).continuation left lt is counted (λ other m e. absurd cc)
counted_behind code turns processes p q (Writing place) after (Nonblocking targets value) held now left lt is one counted =
    same_counters code turns processes p q (Writing place) after (execute_at (Writing place) (Nonblocking targets value) [] held now).continuation left lt is counted (λ other m e. absurd cc)
counted_behind code turns processes p q (Writing place) after (AssignDelayed amount targets value) held now left lt is one counted =
    same_counters code turns processes p q (Writing place) after (execute_at (Writing place) (AssignDelayed amount targets value) [] held now).continuation left lt is counted (λ other m e. absurd cc)
counted_behind code turns processes p q (Writing place) after (NonblockingDelayed amount targets value) held now left lt is one counted =
    same_counters code turns processes p q (Writing place) after (execute_at (Writing place) (NonblockingDelayed amount targets value) [] held now).continuation left lt is counted (λ other m e. absurd cc)
counted_behind code turns processes p q (Writing place) after (Trigger event) held now left lt is one counted =
    same_counters code turns processes p q (Writing place) after (execute_at (Writing place) (Trigger event) [] held now).continuation left lt is counted (λ other m e. absurd cc)
counted_behind code turns processes p q (Writing place) after (Test condition when_true otherwise) held now left lt is one counted =
    same_counters code turns processes p q (Writing place) after (execute_at (Writing place) (Test condition when_true otherwise) [] held now).continuation left lt is counted (λ other m e. absurd cc)
counted_behind code turns processes p q (Writing place) after (Case kind value branches otherwise) held now left lt is one counted =
    same_counters code turns processes p q (Writing place) after (execute_at (Writing place) (Case kind value branches otherwise) [] held now).continuation left lt is counted (λ other m e. absurd cc)
counted_behind code turns processes p q (Writing place) after (While condition body) held now left lt is one counted =
    same_counters code turns processes p q (Writing place) after (execute_at (Writing place) (While condition body) [] held now).continuation left lt is counted (λ other m e. absurd cc)
counted_behind code turns processes p q (Writing place) after (Repeat count body) held now left lt is one counted =
    same_counters code turns processes p q (Writing place) after (execute_at (Writing place) (Repeat count body) [] held now).continuation left lt is counted (λ other m e. absurd cc)
counted_behind code turns processes p q (Writing place) after (Forever body) held now left lt is one counted =
    same_counters code turns processes p q (Writing place) after (execute_at (Writing place) (Forever body) [] held now).continuation left lt is counted (λ other m e. absurd cc)
counted_behind code turns processes p q (Writing place) after (Delay amount body) held now left lt is one counted =
    same_counters code turns processes p q (Writing place) after (execute_at (Writing place) (Delay amount body) [] held now).continuation left lt is counted (λ other m e. absurd cc)
counted_behind code turns processes p q (Writing place) after (EventControl terms body) held now left lt is one counted =
    same_counters code turns processes p q (Writing place) after (execute_at (Writing place) (EventControl terms body) [] held now).continuation left lt is counted (λ other m e. absurd cc)
counted_behind code turns processes p q (Writing place) after (Wait condition terms body) held now left lt is one counted =
    same_counters code turns processes p q (Writing place) after (execute_at (Writing place) (Wait condition terms body) [] held now).continuation left lt is counted (λ other m e. absurd cc)
counted_behind code turns processes p q (Writing place) after (ContinuousAssign targets value terms) held now left lt is one counted =
    same_counters code turns processes p q (Writing place) after (execute_at (Writing place) (ContinuousAssign targets value terms) [] held now).continuation left lt is counted (λ other m e. absurd cc)
counted_behind code turns processes p q (Writing place) after (Print when pieces) held now left lt is one counted =
    same_counters code turns processes p q (Writing place) after (execute_at (Writing place) (Print when pieces) [] held now).continuation left lt is counted (λ other m e. absurd cc)
counted_behind code turns processes p q (Writing place) after (DumpVars selection) held now left lt is one counted =
    same_counters code turns processes p q (Writing place) after (execute_at (Writing place) (DumpVars selection) [] held now).continuation left lt is counted (λ other m e. absurd cc)
counted_behind code turns processes p q (Writing place) after (Dump switch) held now left lt is one counted =
    same_counters code turns processes p q (Writing place) after (execute_at (Writing place) (Dump switch) [] held now).continuation left lt is counted (λ other m e. absurd cc)
counted_behind code turns processes p q (Writing place) after NoOperation held now left lt is one counted =
    same_counters code turns processes p q (Writing place) after (execute_at (Writing place) NoOperation [] held now).continuation left lt is counted (λ other m e. absurd cc)
counted_behind code turns processes p q (Writing place) after Finish held now left lt is one counted =
    same_counters code turns processes p q (Writing place) after (execute_at (Writing place) Finish [] held now).continuation left lt is counted (λ other m e. absurd cc)
counted_behind code turns processes p q (Writing place) after Stop held now left lt is one counted =
    same_counters code turns processes p q (Writing place) after (execute_at (Writing place) Stop [] held now).continuation left lt is counted (λ other m e. absurd cc)

-- ---- waking

left_awake : (comes : Process → Bool) (o : Option Process) → continuation_of (option_map (awake comes) o) ≡ continuation_of o
left_awake comes None = refl
left_awake comes (Some process) = by (comes process)
  where
    by : (b : Bool) → (if b then record process { waits = None } else process).continuation ≡ process.continuation
    by true = refl
    by false = refl

pub counted_awake : (code : Code) (turns : List ℕ) (comes : Process → Bool) (processes : List Process) → AreCounted code turns processes →
    AreCounted code turns (map (awake comes) processes)
counted_awake code turns comes processes counted counter some =
    let c = counted counter some in
    record {
      process = c.process;
      place = c.place;
      n = c.n;
      there = subst (λ xs. Contains xs (Repeating c.place c.n))
          (sym (ap continuation_of (get_awake comes processes c.process) ∙ left_awake comes (slice_get processes c.process))) c.there;
      counter_is = c.counter_is;
    }
