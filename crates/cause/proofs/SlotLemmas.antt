-- The visits of a slot, step by step.
use Rattle.std.proofs.Common.{◌≡◌, ℕ, suc, ◌+◌, ◌-◌, ◌<◌, ◌≤◌, List, Option, Some, None, IfSome, IfNone, slice_get, length, Bool, true, false, inl, inr, refl, sym, ap, subst, ◌∙◌, le_refl, add-one, arith, take, [], ◌∷◌, zero}
use Rattle.std.proofs.lemmas.Bool.{cases_lt}
use Rattle.std.proofs.lemmas.Option.{same_Some, slice_get_within}
use Rattle.basis.proofs.Bools.{clash}
use Rattle.sched_core.specs.Logs.{IsLogFrom}
use Rattle.sched_core.specs.Rules.{IsRun, choice_at, stands}
use Rattle.sched_core.specs.Replay.{IsNextChoice}
use Rattle.sched_core.proofs.RunLemmas.{IsLeft, left_next, run_more}
use Rattle.vmodel.specs.declared.choice.Choice.{Choice}
use Rattle.vmodel.specs.State.{State}
use Rattle.vmodel.specs.Choices.{choices}
use Rattle.vmodel.specs.Step.{Transition, next}
use Rattle.vmodel.specs.Run.{Setting, rules_of, state_after}
use Rattle.vmodel.specs.RunProgress.{width_is, after_is}
use Rattle.vmachine.specs.Inner.{IsAt}
use Rattle.cause.specs.Checkpoints.{IsCheckpointOf}
use Rattle.footprints.specs.Keeping.{Keeps}
use Rattle.cause.proofs.CheckpointLemmas.{keeps_none, keeps_on, keeps_then, rises, seen_early}
use Rattle.footprints.specs.declared.visit.Visit.{Visit}
use Rattle.cause.specs.declared.checkpoint.Checkpoint.{Checkpoint}
use Rattle.footprints.specs.Visits.{Seen, seen_by, seen_next, seen_after, visits_to, choice_of, is_in_slot, IsBegin, IsSlot}
use Rattle.cause.specs.Causes.{AreEarlier, AreVisits, HasNoCause, HasNoSlot, last_step, parent_of}
use Rattle.footprints.specs.Swaps.{HasNoSwap}
use Rattle.cause.specs.Stands.{IsSeenSo, StandsBefore}

-- what a clause says of what was found
pub where_some : {A : Type 0} (P : A → Type 0) {found : Option A} {x : A} → found ≡ Some x → IfSome found P → P x
where_some P e says = subst (λ o. IfSome o P) e says

pub where_none : {A : Type 0} (P : Type 0) {found : Option A} → found ≡ None → IfNone found P → P
where_none P e says = subst (λ o. IfNone o P) e says

-- a slot ends once
pub one_end : (setting : Setting) (log : List (ℕ × ℕ)) (s n m : ℕ) → IsSlot setting log s n → IsSlot setting log s m → n ≡ m
one_end setting log s n m one other =
    elim (cases_lt n m) [
      | inl lt ↦ absurd (clash (is_in_slot (choice_of setting log n)) (other.within n one.after lt) one.ends)
      | inr ge ↦ elim (cases_lt m n) [
        | inl lt ↦ absurd (clash (is_in_slot (choice_of setting log m)) (one.within m other.after lt) other.ends)
        | inr le ↦ omega (arith, ge, le)
      ]
    ]

-- where two slots have no swap, the log has no cause
pub none_there : (setting : Setting) (log parent_log : List (ℕ × ℕ)) (step steps : ℕ) (run theirs : List Visit) → last_step log ≡ Some step →
    parent_log ≡ parent_of log → AreVisits setting log step run → AreVisits setting parent_log step theirs → HasNoSwap run theirs → HasNoCause setting log steps
none_there setting log parent_log step steps run theirs named is (n, slot, at) (m, other, at_other) none = λ s k l e lt here lt_other there.
    let same : step ≡ s = same_Some step s (sym named ∙ e) in
    let ours : run ≡ visits_to setting log s k =
    at
    ∙ ap (visits_to setting log step) (one_end setting log step n k slot (subst (λ t. IsSlot setting log t k) (sym same) here))
    ∙ ap (λ (t : ℕ). visits_to setting log t k) same in
    let there_so : IsSlot setting parent_log step l =
    subst (λ (g : List (ℕ × ℕ)). IsSlot setting g step l) (sym is) (subst (λ t. IsSlot setting (parent_of log) t l) (sym same) there) in
    let others : theirs ≡ visits_to setting (parent_of log) s l =
    at_other
    ∙ ap (visits_to setting parent_log step) (one_end setting parent_log step m l other there_so)
    ∙ ap (λ (g : List (ℕ × ℕ)). visits_to setting g step l) is
    ∙ ap (λ (t : ℕ). visits_to setting (parent_of log) t l) same in
    subst (λ (visits : List Visit). HasNoSwap visits (visits_to setting (parent_of log) s l)) ours (subst (HasNoSwap run) others none)

-- the front of a log is one
pub log_front : (low k : ℕ) (log : List (ℕ × ℕ)) → IsLogFrom low log → IsLogFrom low (take k log)
log_front low zero [] h = tt
log_front low zero (m ∷ log) h = tt
log_front low (suc k) [] h = tt
log_front low (suc k) (m ∷ log) h = (h.0, h.1, h.2, h.3, log_front (m.0 + 1) k log h.4)

pub parent_is_log : (members parent : List (ℕ × ℕ)) → parent ≡ parent_of members → IsLogFrom 0 members → IsLogFrom 0 parent
parent_is_log members parent is lawful = subst (IsLogFrom 0) (sym is) (log_front 0 (length members - 1) members lawful)

some_within : {A : Type 0} (xs : List A) (i : ℕ) → i < length xs → slice_get xs i ≡ None → ⊥
some_within [] i lt e = absurd (omega (arith, lt))
some_within (x ∷ xs) zero lt e = cc
some_within (x ∷ xs) (suc i) lt e = some_within xs i (omega (arith, lt)) e

module _ (setting : Setting) (log : List (ℕ × ℕ)) (steps from : ℕ) where
  -- from a checkpoint on
  pub begun : (n : ℕ) (rest : List (ℕ × ℕ)) (state : State) (seen : Seen) → IsCheckpointOf setting log (record { step = n; state = state; seen = seen }) →
      IsLeft log rest n → n ≤ from → n ≤ steps → IsSeenSo setting log steps from rest n state seen
  begun n rest state seen is left le within = record {
    here = record { within = within; left = left; run = is.run; at = is.state };
    is = subst (Keeps state.queue.time seen) (seen_early setting log n from n (le_refl n) le) is.seen;
    few = is.few;
    within = λ k after lt. absurd (omega (arith, after, lt, le));
  }

  module _ (rest : List (ℕ × ℕ)) (n : ℕ) (state : State) (seen : Seen) (so : IsSeenSo setting log steps from rest n state seen) where
    width_here : (rules_of setting).width (stands (rules_of setting) log n) ≡ length (choices state)
    width_here = width_is setting (state_after setting log n) ∙ sym (ap (λ (s : State). length (choices s)) so.here.at)

    -- all steps were taken
    pub none_left : steps ≤ n → HasNoSlot setting log from steps
    none_left le m lt slot =
        let still : m < n = omega (arith, le, lt) in
        clash (is_in_slot (choice_of setting log m)) (so.within m slot.after still) slot.ends

    module _ (index : ℕ) (later : List (ℕ × ℕ)) (taken : IsNextChoice rest n index later) where
      index_is : index ≡ choice_at log n
      index_is = taken.taken ∙ sym (so.here.left.same n (le_refl n))

      choice_is : slice_get (choices state) index ≡ choice_of setting log n
      choice_is =
          ap (slice_get (choices state)) index_is
          ∙ ap (λ (s : State). slice_get (choices s) (choice_at log n)) so.here.at

      -- the slot has ended
      pub told : (visits : List Visit) (choice : Option Choice) → from ≤ n → choice ≡ slice_get (choices state) index → is_in_slot choice ≡ false →
          visits ≡ seen.visits → AreVisits setting log from visits
      told visits choice after found ends is = (
        n,
        record { run = so.here.run; after = after; within = so.within; ends = ap is_in_slot (sym (found ∙ choice_is)) ∙ ends },
        is ∙ so.is.visits,
      )

      slot_on : (choice : Choice) → Some choice ≡ slice_get (choices state) index → (from ≤ n → is_in_slot (Some choice) ≡ true) →
          (k : ℕ) → from ≤ k → k < n + 1 → is_in_slot (choice_of setting log k) ≡ true
      slot_on choice found goes k le lt =
          elim (cases_lt k n) [
            | inl below ↦ so.within k le below
            | inr ge ↦ (let same : k ≡ n = omega (arith, ge, lt) in
                ap (λ (m : ℕ). is_in_slot (choice_of setting log m)) same
                ∙ ap is_in_slot (sym (found ∙ choice_is))
                ∙ goes (omega (arith, le, same)))
          ]

      -- a step more
      module _ (choice : Choice) (after : State) (new : Seen) (found : Some choice ≡ slice_get (choices state) index) where
        run_on : IsRun (rules_of setting) log (n + 1)
        run_on = run_more (rules_of setting) log n so.here.run (omega (arith, width_here, index_is, slice_get_within (choices state) index choice (sym found)))

        at_on : after ≡ (next setting.design state index).state → after ≡ state_after setting log (n + 1)
        at_on is =
            is
            ∙ ap (λ (s : State). (next setting.design s index).state) so.here.at
            ∙ ap (λ (i : ℕ). (next setting.design (state_after setting log n) i).state) index_is
            ∙ sym (after_is setting (state_after setting log n) (choice_at log n))
            ∙ ap (stands (rules_of setting) log) (sym (add-one n))

        sees_on : seen_by setting.design from n state choice (next setting.design state index) (seen_after setting log from n) ≡ seen_after setting log from (n + 1)
        sees_on =
            ap (λ (s : State). seen_by setting.design from n s choice (next setting.design s index) (seen_after setting log from n)) so.here.at
            ∙ ap (λ (i : ℕ). seen_by setting.design from n (state_after setting log n) choice (next setting.design (state_after setting log n) i)
            (seen_after setting log from n)) index_is
            ∙ ap (λ (c : Option Choice). seen_next setting.design from n (state_after setting log n) c
            (next setting.design (state_after setting log n) (choice_at log n)) (seen_after setting log from n)) (found ∙ choice_is)
            ∙ ap (seen_after setting log from) (sym (add-one n))

        pub keeps_there : after ≡ (next setting.design state index).state →
            Keeps after.queue.time new (seen_by setting.design from n state choice (next setting.design state index) seen) →
            Keeps after.queue.time new (seen_after setting log from (n + 1))
        keeps_there is sees =
            let step : Transition = next setting.design state index in
            let later_on : state.queue.time ≤ after.queue.time = rises setting log n state after run_on so.here.at (at_on is) in
            subst (Keeps after.queue.time new) sees_on
            (keeps_then after.queue.time new (seen_by setting.design from n state choice step seen)
            (seen_by setting.design from n state choice step (seen_after setting log from n)) sees
            (keeps_on setting.design from n state choice step seen (seen_after setting log from n) after.queue.time so.is later_on))

        pub is_at_on : n < steps → IsLogFrom (n + 1) later → after ≡ (next setting.design state index).state → IsAt setting log later steps (n + 1) after
        is_at_on lt lawful is = record {
          within = omega (arith, lt);
          left = left_next log rest later n index so.here.left taken lawful;
          run = run_on;
          at = at_on is;
        }

        pub seen_on : n < steps → IsLogFrom (n + 1) later → (from ≤ n → is_in_slot (Some choice) ≡ true) → after ≡ (next setting.design state index).state →
            Keeps after.queue.time new (seen_by setting.design from n state choice (next setting.design state index) seen) → new.updates ≤ n + 1 →
            IsSeenSo setting log steps from later (n + 1) after new
        seen_on lt lawful goes is sees few =
            record { here = is_at_on lt lawful is; is = keeps_there is sees; few = few; within = slot_on choice found goes }

-- ---- the visits of the slot before the step

-- a checkpoint begins a slot
pub begins : (setting : Setting) (log : List (ℕ × ℕ)) (checkpoint : Checkpoint) → IsCheckpointOf setting log checkpoint →
    IsBegin setting log checkpoint.step checkpoint.step
begins setting log checkpoint is = record {
  before = le_refl checkpoint.step;
  within = λ k after lt. absurd (omega (arith, after, lt));
  begins = is.begins;
}

-- a run that has no choice doesn't go on
pub stops : (setting : Setting) (log rest later : List (ℕ × ℕ)) (to from n index : ℕ) (state : State) (seen : Seen) → IsSeenSo setting log to from rest n state seen →
    IsNextChoice rest n index later → slice_get (choices state) index ≡ None → (m : ℕ) → n < m → IsRun (rules_of setting) log m → ⊥
stops setting log rest later to from n index state seen so taken none m lt run =
    some_within (choices (state_after setting log n)) (choice_at log n)
    (omega (arith, run n lt, width_is setting (state_after setting log n)))
    (sym (choice_is setting log to from rest n state seen so index later taken) ∙ none)

-- where the run has ended before a step, that has no slot
pub ended : (setting : Setting) (log rest later : List (ℕ × ℕ)) (from begin n index : ℕ) (state : State) (seen : Seen) →
    IsSeenSo setting log from begin rest n state seen → IsNextChoice rest n index later → n < from → slice_get (choices state) index ≡ None →
    (steps : ℕ) → HasNoSlot setting log from steps
ended setting log rest later from begin n index state seen so taken before none steps m lt slot =
    some_within (choices (state_after setting log n)) (choice_at log n)
    (let after : from ≤ m = slot.after in
    omega (arith, slot.run n (omega (arith, before, after)), width_is setting (state_after setting log n)))
    (sym (choice_is setting log from begin rest n state seen so index later taken) ∙ none)

module _ (setting : Setting) (log rest later : List (ℕ × ℕ)) (from begin n index : ℕ) (state after : State) (seen new : Seen)
    (begun_so : IsBegin setting log n begin) (so : IsSeenSo setting log from begin rest n state seen) (taken : IsNextChoice rest n index later)
    (choice : Choice) (found : Some choice ≡ slice_get (choices state) index) where
  choice_here : is_in_slot (choice_of setting log n) ≡ is_in_slot (Some choice)
  choice_here = ap is_in_slot (sym (found ∙ choice_is setting log from begin rest n state seen so index later taken))

  same_begin : is_in_slot (Some choice) ≡ true → IsBegin setting log (n + 1) begin
  same_begin goes = record {
    before = omega (arith, begun_so.before);
    within = λ k le lt. elim (cases_lt k n) [
      | inl below ↦ begun_so.within k le below
      | inr ge ↦ (let same : k ≡ n = omega (arith, ge, lt) in ap (λ (m : ℕ). is_in_slot (choice_of setting log m)) same ∙ choice_here ∙ goes)
    ];
    begins = begun_so.begins;
  }

  new_begin : is_in_slot (Some choice) ≡ false → IsBegin setting log (n + 1) (n + 1)
  new_begin ends = record {
    before = le_refl (n + 1);
    within = λ k le lt. absurd (omega (arith, le, lt));
    begins = λ k e.
        (let same : k ≡ n = omega (arith, e) in ap (λ (m : ℕ). is_in_slot (choice_of setting log m)) same ∙ choice_here ∙ ends);
  }

  -- a step more
  module _ (before : n < from) (lawful : IsLogFrom (n + 1) later) (is : after ≡ (next setting.design state index).state)
      (sees : Keeps after.queue.time new (seen_by setting.design begin n state choice (next setting.design state index) seen))
      (few : new.updates ≤ n + 1) where
    goes_so : is_in_slot (Some choice) ≡ true → IsSeenSo setting log from begin later (n + 1) after new
    goes_so goes = record {
      here = is_at_on setting log from begin rest n state seen so index later taken choice after new found before lawful is;
      is = keeps_there setting log from begin rest n state seen so index later taken choice after new found is sees;
      few = few;
      within = (same_begin goes).within;
    }

    ends_so : IsSeenSo setting log from (n + 1) later (n + 1) after (record new { visits = []; waits = [] })
    ends_so = record {
      here = is_at_on setting log from begin rest n state seen so index later taken choice after new found before lawful is;
      is = keeps_none setting log begin (n + 1) (n + 1) after.queue.time new
          (keeps_there setting log from begin rest n state seen so index later taken choice after new found is sees) (le_refl (n + 1));
      few = few;
      within = λ k le lt. absurd (omega (arith, le, lt));
    }

    pub begin_on : (b : ℕ) (kept : Seen) → (is_in_slot (Some choice) ≡ true → (b ≡ begin) × (kept ≡ new)) →
        (is_in_slot (Some choice) ≡ false → (b ≡ n + 1) × (kept ≡ record new { visits = []; waits = [] })) → IsBegin setting log (n + 1) b
    begin_on b kept on off = by_case (is_in_slot (Some choice)) refl
      where
        by_case : (test : Bool) → is_in_slot (Some choice) ≡ test → IsBegin setting log (n + 1) b
        by_case true e = subst (IsBegin setting log (n + 1)) (sym (on e).0) (same_begin e)
        by_case false e = subst (IsBegin setting log (n + 1)) (sym (off e).0) (new_begin e)

    pub so_on : (b : ℕ) (kept : Seen) → (is_in_slot (Some choice) ≡ true → (b ≡ begin) × (kept ≡ new)) →
        (is_in_slot (Some choice) ≡ false → (b ≡ n + 1) × (kept ≡ record new { visits = []; waits = [] })) → IsSeenSo setting log from b later (n + 1) after kept
    so_on b kept on off = by_case (is_in_slot (Some choice)) refl
      where
        P : ℕ → Seen → Type 0
        P c s = IsSeenSo setting log from c later (n + 1) after s

        by_case : (test : Bool) → is_in_slot (Some choice) ≡ test → P b kept
        by_case true e = subst (λ (c : ℕ). P c kept) (sym (on e).0) (subst (P begin) (sym (on e).1) (goes_so e))
        by_case false e = subst (λ (c : ℕ). P c kept) (sym (off e).0) (subst (P (n + 1)) (sym (off e).1) ends_so)

pub stands_there : (setting : Setting) (log rest : List (ℕ × ℕ)) (from n begin : ℕ) (state : State) (seen : Seen) → IsBegin setting log n begin →
    IsSeenSo setting log from begin rest n state seen → from ≤ n → StandsBefore setting log from rest state seen
stands_there setting log rest from n begin state seen begun_so so le =
    let same : n ≡ from = omega (arith, le, so.here.within) in
    record {
      b = begin;
      begin = subst (λ (m : ℕ). IsBegin setting log m begin) same begun_so;
      so = subst (λ (m : ℕ). IsSeenSo setting log from begin rest m state seen) same so;
    }

-- from the step on
pub stands_so : (setting : Setting) (log rest : List (ℕ × ℕ)) (steps from : ℕ) (state : State) (seen kept : Seen) → StandsBefore setting log from rest state seen →
    kept ≡ record seen { visits = []; waits = [] } → from ≤ steps → IsSeenSo setting log steps from rest from state kept
stands_so setting log rest steps from state seen kept before is le =
    let none : IsSeenSo setting log steps from rest from state (record seen { visits = []; waits = [] }) = record {
      here = record { within = le; left = before.so.here.left; run = before.so.here.run; at = before.so.here.at };
      is = keeps_none setting log before.b from from state.queue.time seen before.so.is (le_refl from);
      few = before.so.few;
      within = λ k after lt. absurd (omega (arith, after, lt));
    } in
    subst (IsSeenSo setting log steps from rest from state) (sym is) none

pub are_earlier : (setting : Setting) (log rest : List (ℕ × ℕ)) (from : ℕ) (state : State) (seen : Seen) (visits : List Visit) →
    StandsBefore setting log from rest state seen → visits ≡ seen.visits → AreEarlier setting log from visits
are_earlier setting log rest from state seen visits before is = (before.b, before.begin, is ∙ before.so.is.visits)

-- where a run stands before the first step of a slot is a checkpoint
pub checkpoint_there : (setting : Setting) (log rest : List (ℕ × ℕ)) (steps from n : ℕ) (state : State) (seen : Seen) →
    IsSeenSo setting log steps from rest n state seen → n ≤ from → ((k : ℕ) → suc k ≡ n → is_in_slot (choice_of setting log k) ≡ false) →
    IsCheckpointOf setting log (record { step = n; state = state; seen = seen })
checkpoint_there setting log rest steps from n state seen so le begin = record {
  run = so.here.run;
  state = so.here.at;
  seen = subst (Keeps state.queue.time seen) (seen_early setting log from n n le (le_refl n)) so.is;
  few = so.few;
  begins = begin;
}

module _ (setting : Setting) (log rest later : List (ℕ × ℕ)) (to n index : ℕ) (state after : State) (seen new : Seen) (choice : Choice)
    (so : IsSeenSo setting log to to rest n state seen) (taken : IsNextChoice rest n index later) (lawful : IsLogFrom (n + 1) later)
    (found : Some choice ≡ slice_get (choices state) index) (lt : n < to) (is : after ≡ (next setting.design state index).state)
    (sees : Keeps after.queue.time new (seen_by setting.design to n state choice (next setting.design state index) seen)) (few : new.updates ≤ n + 1) where
  -- the run goes on by a step
  pub goes_on : IsSeenSo setting log to to later (n + 1) after new
  goes_on =
      let goes : to ≤ n → is_in_slot (Some choice) ≡ true = λ le. absurd (omega (arith, lt, le)) in
      seen_on setting log to to rest n state seen so index later taken choice after new found lt lawful goes is sees few

  -- behind a step that ends its slot another begins
  pub begins_behind : is_in_slot (Some choice) ≡ false → IsCheckpointOf setting log (record { step = n + 1; state = after; seen = new })
  begins_behind ends = checkpoint_there setting log later to to (n + 1) after new goes_on (omega (arith, lt)) begin
    where
      begin : (k : ℕ) → suc k ≡ n + 1 → is_in_slot (choice_of setting log k) ≡ false
      begin k e =
          let same : k ≡ n = omega (arith, e) in
          ap (λ (m : ℕ). is_in_slot (choice_of setting log m)) same
          ∙ ap is_in_slot (sym (found ∙ choice_is setting log to to rest n state seen so index later taken))
          ∙ ends
