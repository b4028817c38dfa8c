-- Runs of settings that differ in their departures, or in what is looked at.
use Rattle.std.proofs.Common.{◌≡◌, ℕ, zero, suc, ◌<◌, ◌≤◌, cond, is_some, List, [], ◌∷◌, ◌++◌, take, length, Option, Some, None, refl, sym, ap, subst, ◌∙◌, arith}
use Rattle.std.specs.Prelude.{slice_get}
use Rattle.std.proofs.lemmas.List.{append-nil}
use Rattle.basis.proofs.Lists.{listed_place}
use Rattle.sched_core.specs.Rules.{choice_at, IsRun}
use Rattle.sched_core.specs.Replay.{EndsAfter}
use Rattle.vdesign.specs.Design.{Design}
use Rattle.sched_core.specs.declared.end.Cause.{Cause}
use Rattle.sched_core.specs.declared.setting.Departures.TheVariants.{Taking}
use Rattle.sched_core.specs.declared.setting.Grain.{Grain}
use Rattle.sched_core.specs.declared.setting.Grain.TheVariants.{Process, Statement}
use Rattle.vmodel.specs.declared.history.Item.{Item}
use Rattle.sched_core.specs.declared.setting.Looked.{Looked}
use Rattle.sched_core.specs.declared.setting.Looked.TheVariants.{Values, Lines}
use Rattle.vmodel.specs.declared.choice.Choice.{Choice}
use Rattle.vmodel.specs.declared.choice.Choice.TheVariants.{Run, Update, Advance}
use Rattle.vmodel.specs.Queue.{Later, Queue}
use Rattle.vmodel.specs.State.{State}
use Rattle.vmodel.specs.Choices.{or_advance, active_choices, offered_choices, order_by, order_of, taking_or_holding, choices_by, choices}
use Rattle.vmodel.specs.Holding.{count_before, with_held, before_choice, without_taken, release, held_after}
use Rattle.sched_core.specs.Bags.{HasLines}
use Rattle.vmodel.specs.Printed.{printed_after}
use Rattle.vmodel.specs.Step.{Transition, transition_of, with_views, with_held_after, transition_by, next, items_of}
use Rattle.vmodel.specs.Run.{Setting, rules_of, state_after, items_after, held_at_first, printed_at_first}
use Rattle.vmodel.specs.RunProgress.{opening_is, after_is, width_is}
use Rattle.plain_steps.specs.RunLaws.{holding, of_values}
use Rattle.vmodel.proofs.ProcessLemmas.{is_lt}
use Rattle.plain_steps.proofs.OrderLemmas.{get_front}
use Rattle.vmodel.proofs.HeldLemmas.{released-none}
use Rattle.plain_steps.proofs.BagLemmas.{lines-kept}
use Rattle.plain_steps.proofs.ViewLemmas.{with_seen_after, items-seen, without_lines, holding_none, values_step, holding_step}

-- ---- where values alone are looked at

pub as_values : (setting : Setting) (log : List (ℕ × ℕ)) (n : ℕ) →
    (state_after (of_values setting) log n ≡ without_lines (state_after setting log n))
    × (items_after (of_values setting) log n ≡ items_after setting log n)
as_values setting log zero = (
  opening_is (of_values setting) ∙ ap without_lines (sym (opening_is setting)),
  refl,
)
as_values setting log (suc n) =
    let before = as_values setting log n in
    let s = state_after setting log n in
    let i = choice_at log n in
    let o = slice_get (choices s) i in
    let t = transition_by setting.design s i o in
    let same : next setting.design (state_after (of_values setting) log n) i ≡ with_seen_after t.state.held_back None t =
    ap (λ (x : State). next setting.design x i) before.0 ∙ values_step setting.design i o s in (
      after_is (of_values setting) (state_after (of_values setting) log n) i
          ∙ ap (λ (x : Transition). x.state) same
          ∙ ap without_lines (sym (after_is setting s i)),
      (λ k. before.1 k ++ (ap (items_of setting.design) same ∙ items-seen t.state.held_back None setting.design t) k),
    )

-- ---- which lines are there

has_after : (looked : Looked) (printed : Option (List (List ℕ))) (c : Choice) (items : List Item) → HasLines looked printed →
    HasLines looked (printed_after c items printed)
has_after Values None c items has = tt
has_after Values (Some bag) c items has = absurd has
has_after Lines None c items has = absurd has
has_after Lines (Some bag) c items has = lines-kept c items bag has

has_next : (looked : Looked) (design : Design) (s : State) (i : ℕ) (o : Option Choice) → HasLines looked s.printed →
    HasLines looked (transition_by design s i o).state.printed
has_next looked design s i None has = has
has_next looked design s i (Some c) has = has_after looked s.printed c (items_of design (with_held_after s i c (transition_of design c s))) has

has_first : (looked : Looked) → HasLines looked (printed_at_first looked)
has_first Values = tt
has_first Lines = λ i j a b lt at there. cc

pub prints_where_looked : (setting : Setting) (log : List (ℕ × ℕ)) (n : ℕ) → HasLines setting.looked (state_after setting log n).printed
prints_where_looked setting log zero = subst (λ (s : State). HasLines setting.looked s.printed) (sym (opening_is setting)) (has_first setting.looked)
prints_where_looked setting log (suc n) =
    let s = state_after setting log n in
    let i = choice_at log n in
    subst (λ (x : State). HasLines setting.looked x.printed) (sym (after_is setting s i))
    (has_next setting.looked setting.design s i (slice_get (choices s) i) (prints_where_looked setting log n))

-- ---- where departures may hold back

-- where they only take, nothing is ever held back
none_next : (design : Design) (s : State) (i : ℕ) (o : Option Choice) → s.held_back ≡ None → (transition_by design s i o).state.held_back ≡ None
none_next design s i None none = none
none_next design s i (Some c) none = ap (λ (held : Option (List ℕ)). held_after held s.queue i c (transition_of design c s).state.queue) none

none_held : (setting : Setting) (log : List (ℕ × ℕ)) (n : ℕ) → setting.departures ≡ Taking → (state_after setting log n).held_back ≡ None
none_held setting log zero takes = ap (λ (s : State). s.held_back) (opening_is setting) ∙ ap held_at_first takes
none_held setting log (suc n) takes =
    let s = state_after setting log n in
    let i = choice_at log n in
    ap (λ (x : State). x.held_back) (after_is setting s i)
    ∙ none_next setting.design s i (slice_get (choices s) i) (none_held setting log n takes)

order_is : (q : Queue) (grain : Grain) (last : Option ℕ) → order_by [] q grain last ≡ offered_choices q grain last
order_is q Process (Some p) = refl
order_is q Process None = append-nil (active_choices q)
order_is q Statement last = append-nil (active_choices q)

-- the choices that only take come first
still_there : (order : List Choice) (future : List (ℕ × Later)) (i : ℕ) → i < length (or_advance order future) →
    slice_get (or_advance (taking_or_holding order) future) i ≡ slice_get (or_advance order future) i
still_there [] future i lt = refl
still_there (c ∷ cs) future i lt = get_front (c ∷ cs) cs i lt

no_fewer : (order : List Choice) (future : List (ℕ × Later)) → length (or_advance order future) ≤ length (or_advance (taking_or_holding order) future)
no_fewer [] future = omega arith
no_fewer (c ∷ cs) future = longer (c ∷ cs) cs
  where
    longer : (xs ys : List Choice) → length xs ≤ length (xs ++ ys)
    longer [] ys = omega arith
    longer (x ∷ xs) ys = omega (arith, longer xs ys)

nobody_before : (order : List Choice) (future : List (ℕ × Later)) (i : ℕ) → i < length (or_advance order future) → before_choice order i ≡ []
nobody_before [] future i lt = take_none (count_before 0 i)
  where
    none : List Choice
    none = []

    take_none : (n : ℕ) → take n none ≡ none
    take_none zero = refl
    take_none (suc n) = refl
nobody_before (c ∷ cs) future i lt = rw (is_lt i (suc (length cs)) lt) refl

taken_none : (c : Choice) → without_taken c [] ≡ []
taken_none (Run p) = refl
taken_none Update = refl
taken_none Advance = refl

none_after : (q after : Queue) (i : ℕ) (c : Choice) → i < length (or_advance (order_of [] q) q.future) → held_after (Some []) q i c after ≡ Some []
none_after q after i c lt =
    ap (λ (before : List Choice). Some (release after (without_taken c (with_held before [])))) (nobody_before (order_of [] q) q.future i lt)
    ∙ ap (λ (held : List ℕ). Some (release after held)) (taken_none c)
    ∙ ap Some (released-none after)

-- a choice where departures only take, where they may hold back
record IsThere (s : State) (i : ℕ) : Type 0 where
  same : slice_get (choices (holding_none s)) i ≡ slice_get (choices s) i
  wide : i < length (choices (holding_none s))
  none : (c : Choice) (after : Queue) → held_after (Some []) s.queue i c after ≡ Some []

-- the choices where a run goes on, in both settings
taking_choices : (s : State) → s.cause ≡ None → s.held_back ≡ None → choices s ≡ or_advance (order_of [] s.queue) s.queue.future
taking_choices s goes_on none =
    let q = s.queue in
    (λ k. cond (is_some (goes_on k)) [] (choices_by (none k) q))
    ∙ ap (λ (order : List Choice). or_advance order q.future) (sym (order_is q q.grain q.last))

holding_choices : (s : State) → s.cause ≡ None → choices (holding_none s) ≡ or_advance (taking_or_holding (order_of [] s.queue)) s.queue.future
holding_choices s goes_on = ap (λ (cause : Option Cause). cond (is_some cause) [] (choices_by (Some []) s.queue)) goes_on

there : (s : State) (i : ℕ) → s.held_back ≡ None → i < length (choices s) → IsThere s i
there s i none lt = by_cause s.cause refl
  where
    by_cause : (cause : Option Cause) → s.cause ≡ cause → IsThere s i
    by_cause (Some cause) is = absurd (omega (arith, lt, ap (λ (o : Option Cause). length (cond (is_some o) [] (choices_by s.held_back s.queue))) is))
    by_cause None is =
        let order = order_of [] s.queue in
        let takes = taking_choices s is none in
        let holds = holding_choices s is in
        let within : i < length (or_advance order s.queue.future) = omega (arith, lt, ap (λ (cs : List Choice). length cs) takes) in record {
          same = ap (λ (cs : List Choice). slice_get cs i) holds ∙ still_there order s.queue.future i within ∙ ap (λ (cs : List Choice). slice_get cs i) (sym takes);
          wide = omega (arith, within, no_fewer order s.queue.future, ap (λ (cs : List Choice). length cs) holds);
          none = λ c after. none_after s.queue after i c within;
        }

carried : (setting : Setting) (log : List (ℕ × ℕ)) (n : ℕ) → setting.departures ≡ Taking → IsRun (rules_of setting) log n →
    (state_after (holding setting) log n ≡ holding_none (state_after setting log n))
    × (items_after (holding setting) log n ≡ items_after setting log n)
carried setting log zero takes run = (
  opening_is (holding setting) ∙ ap holding_none (sym (opening_is setting)),
  refl,
)
carried setting log (suc n) takes run =
    let before = carried setting log n takes (λ k lt. run k (omega (arith, lt))) in
    let s = state_after setting log n in
    let i = choice_at log n in
    let lt : i < length (choices s) = omega (arith, run n (omega arith), width_is setting s) in
    let is_there = there s i (none_held setting log n takes) lt in
    let at = listed_place (choices s) i lt in
    let t = with_views setting.design s i at.0 (transition_of setting.design at.0 s) in
    let was : next setting.design s i ≡ t = ap (transition_by setting.design s i) at.1 in
    let same : next setting.design (state_after (holding setting) log n) i ≡ with_seen_after (Some []) t.state.printed t =
    ap (λ (x : State). next setting.design x i) before.0
    ∙ ap (transition_by setting.design (holding_none s) i) (is_there.same ∙ at.1)
    ∙ holding_step setting.design i at.0 s (is_there.none at.0 (transition_of setting.design at.0 s).state.queue) in (
      after_is (holding setting) (state_after (holding setting) log n) i
          ∙ ap (λ (x : Transition). x.state) same
          ∙ ap (λ (x : Transition). holding_none x.state) (sym was)
          ∙ ap holding_none (sym (after_is setting s i)),
      (λ k. before.1 k ++ (ap (items_of setting.design) same ∙ items-seen (Some []) t.state.printed setting.design t ∙ ap (items_of setting.design) (sym was)) k),
    )

runs_too : (setting : Setting) (log : List (ℕ × ℕ)) (n : ℕ) → setting.departures ≡ Taking → IsRun (rules_of setting) log n →
    IsRun (rules_of (holding setting)) log n
runs_too setting log n takes run = λ k lt.
    let s = state_after setting log k in
    let at_k = carried setting log k takes (λ j less. run j (omega (arith, less, lt))) in
    let is_there = there s (choice_at log k) (none_held setting log k takes) (omega (arith, run k lt, width_is setting s)) in
    omega (arith, is_there.wide, width_is (holding setting) (state_after (holding setting) log k), ap (λ (x : State). length (choices x)) at_k.0)

pub taking_is_holding : (setting : Setting) (log : List (ℕ × ℕ)) (n : ℕ) → setting.departures ≡ Taking → IsRun (rules_of setting) log n →
    IsRun (rules_of (holding setting)) log n
    × (state_after (holding setting) log n ≡ holding_none (state_after setting log n))
    × (items_after (holding setting) log n ≡ items_after setting log n)
taking_is_holding setting log n takes run =
    let so = carried setting log n takes run in
    (runs_too setting log n takes run, so.0, so.1)

-- where the one has no choice, the other has none
ends_by : (s : State) → s.held_back ≡ None → length (choices s) ≡ 0 → length (choices (holding_none s)) ≡ 0
ends_by s none h = by_cause s.cause refl
  where
    none_too : (order : List Choice) (future : List (ℕ × Later)) → length (or_advance order future) ≡ 0 →
        length (or_advance (taking_or_holding order) future) ≡ 0
    none_too [] future h = h
    none_too (c ∷ cs) future h = absurd (omega (arith, h))

    by_cause : (cause : Option Cause) → s.cause ≡ cause → length (choices (holding_none s)) ≡ 0
    by_cause (Some cause) is = ap (λ (o : Option Cause). length (cond (is_some o) [] (choices_by (Some []) s.queue))) is
    by_cause None is =
        ap (λ (cs : List Choice). length cs) (holding_choices s is)
        ∙ none_too (order_of [] s.queue) s.queue.future (ap (λ (cs : List Choice). length cs) (sym (taking_choices s is none)) ∙ h)

pub holding_ends_too : (setting : Setting) (log : List (ℕ × ℕ)) (n : ℕ) → setting.departures ≡ Taking →
    EndsAfter (rules_of setting) log n → EndsAfter (rules_of (holding setting)) log n
holding_ends_too setting log n takes ends =
    let s = state_after setting log n in
    let so = carried setting log n takes ends.run in record {
      run = runs_too setting log n takes ends.run;
      end = width_is (holding setting) (state_after (holding setting) log n)
          ∙ ap (λ (x : State). length (choices x)) so.0
          ∙ ends_by s (none_held setting log n takes) (sym (width_is setting s) ∙ ends.end);
      names = ends.names;
    }
