-- A slot's runs of at most so many departures are those of the slot whose states know how many are left.
use Rattle.std.proofs.Common.{◌≡◌, ℕ, ◌+◌, ◌<◌, ◌≤◌, ◌==◌, ◌&&◌, ◌||◌, not, zero, suc, Bool, true, false, if◌then◌else◌, List, [], ◌∷◌}
use Rattle.std.proofs.Common.{length, map, slice_get, Some, arith, ap, refl, sym, subst, inl, inr}
use Rattle.std.proofs.lemmas.Bool.{cases_lt}
use Rattle.std.proofs.lemmas.Bool.Decides.{nat_tests}
use Rattle.std.proofs.lemmas.List.{length-map}
use Rattle.std.proofs.lemmas.Option.{none-some, same_Some}
use Rattle.sched_core.specs.Logs.{IsLogFrom}
use Rattle.sched_core.specs.Rules.{Rules, choice_at, stands, IsRun, NamesBelow}
use Rattle.sched_core.proofs.RunLemmas.{choice_below}
use Rattle.statebook.specs.ExplorerCore.{IsEntry, budget_after, choices_of}
use Rattle.statebook.specs.Inner.Frontiers.{departs, departures_before}
use Rattle.statebook.specs.Ways.{SomeRunExceeds}
use Rattle.statebook.specs.declared.entry.Entry.{Entry}
use Rattle.statebook.specs.declared.limits.Limits.{Limits}
use Rattle.statebook.proofs.RunLemmas.{used-le}
use Rattle.explore.specs.Found.{HasEntries}
use Rattle.matching.specs.Slots.{one_slot}
use Rattle.matching.specs.Inner.BudgetedSlots.{budgeted_slot, choice_there, same_both, same_budgets, same_states}
use Rattle.matching.specs.declared.budgeted_slot.Budgeted.{Budgeted}

-- a log uses none below the first step that it may name
used_before : (low k : ℕ) (log : List (ℕ × ℕ)) → k ≤ low → IsLogFrom low log → departures_before log k ≡ 0
used_before low zero log le is = refl
used_before low (suc k) log le is =
    omega (arith, used_before low k log (omega (arith, le)) is, ap departs (choice_below low k log (omega (arith, le)) is))

departs_one : (c : ℕ) → 1 ≤ c → departs c ≡ 1
departs_one zero le = absurd (omega (arith, le))
departs_one (suc c) le = refl

used_first : (m : ℕ × ℕ) (log : List (ℕ × ℕ)) (n : ℕ) → 1 ≤ m.1 → IsLogFrom m.0 (m ∷ log) → IsLogFrom (m.0 + 1) log → m.0 < n →
    departures_before (m ∷ log) n ≡ 1 + departures_before log n
used_first m log zero one is rest lt = absurd (omega (arith, lt))
used_first m log (suc k) one is rest lt = elim (cases_lt m.0 k) [
  | inl before ↦ (
      let other : (m.0 == k) ≡ false = grind (arith, nat_tests, before) in
      rw other (omega (arith, used_first m log k one is rest before)))
  | inr ge ↦ (
      let there : (m.0 == k) ≡ true = grind (arith, nat_tests, ge, lt) in
      let none = used_before m.0 k (m ∷ log) ge is in
      let later = used_before (m.0 + 1) (suc k) log (omega (arith, ge)) rest in
      rw there (omega (arith, none, later, departs_one m.1 one)))
]

-- each member is a departure
pub used_all : (low n : ℕ) (log : List (ℕ × ℕ)) → IsLogFrom low log → NamesBelow log n → departures_before log n ≡ length log
used_all low zero [] is names = refl
used_all low (suc n) [] is names = omega (arith, used_all low n [] is tt)
used_all low n (m ∷ log) is names =
    let here : IsLogFrom m.0 (m ∷ log) = (omega arith, is.1, is.2, is.3, is.4) in
    omega (arith, used_first m log n is.2 here is.4 names.0, used_all (m.0 + 1) n log is.4 names.1)

-- a choice of the space is one that is left, where a departure has one left
choice_back : (mark : Bool) (w b c : ℕ) → c < (if mark then 0 else w) → (1 ≤ c → 1 ≤ b) → c < (if mark then 0 else choices_of w b)
choice_back true w b c lt left = lt
choice_back false w zero zero lt left = omega (arith, lt)
choice_back false w zero (suc c) lt left = absurd (omega (arith, left (omega arith)))
choice_back false w (suc b) c lt left = lt

choice_forth : (mark : Bool) (w b c : ℕ) → c < (if mark then 0 else choices_of w b) → c < (if mark then 0 else w)
choice_forth true w b c lt = lt
choice_forth false w b c lt = choice_there false w b c lt

after_choice : (b u c most : ℕ) → b + u ≡ most → u + departs c ≤ most → budget_after b c + (u + departs c) ≡ most
after_choice b u zero most is le = omega (arith, is)
after_choice b u (suc c) most is le = omega (arith, is, le)

-- a station is one of the slot
station_forth : (first known mark : Bool) (w b : ℕ) →
    ((first && known) || (not ((if mark then 0 else choices_of w b) == 1) || mark)) ≡ true →
    (first || (not ((if mark then 0 else w) == 1) || mark)) ≡ true
station_forth true known mark w b is = refl
station_forth false known true w b is = refl
station_forth false known false zero b is = refl
station_forth false known false (suc zero) zero is = is
station_forth false known false (suc (suc w)) zero is =
    let more : (suc (suc w) == 1) ≡ false = grind (arith, nat_tests) in
    rw more refl
station_forth false known false w (suc b) is = is

-- an entry without what its state knows
abbrev plain : {S : Type 0} → Entry (Budgeted S) → Entry S
plain e = record { state = e.state.state; budget = e.budget; log = e.log; steps = e.steps }

module _ {S : Type 0} (r : Rules S) (start : S) (most : ℕ) where
  abbrev pub ruled : Rules (Budgeted S)
  ruled = budgeted_slot r start most

  pub state_is : (log : List (ℕ × ℕ)) (n : ℕ) → (stands ruled log n).state ≡ stands (one_slot r start) log n
  state_is log zero = refl
  state_is log (suc n) = ap (λ s. r.after s (choice_at log n)) (state_is log n)

  pub budget_is : (log : List (ℕ × ℕ)) (n : ℕ) → length log ≤ most → (stands ruled log n).budget + departures_before log n ≡ most
  budget_is log zero short = omega arith
  budget_is log (suc n) short =
      after_choice (stands ruled log n).budget (departures_before log n) (choice_at log n) most (budget_is log n short)
      (omega (arith, used-le log (suc n), short))

  pub run_back : (log : List (ℕ × ℕ)) (n : ℕ) → length log ≤ most → IsRun (one_slot r start) log n → IsRun ruled log n
  run_back log n short run k lt =
      let s : Budgeted S = stands ruled log k in
      let P : S → Type 0 = λ t. choice_at log k < (if r.mark t then 0 else r.width t) in
      let some : 1 ≤ choice_at log k → 1 ≤ s.budget = λ le.
      omega (arith, budget_is log k short, used-le log (suc k), short, departs_one (choice_at log k) le) in
      choice_back (r.mark s.state) (r.width s.state) s.budget (choice_at log k) (subst P (sym (state_is log k)) (run k lt)) some

  pub run_forth : (log : List (ℕ × ℕ)) (n : ℕ) → IsRun ruled log n → IsRun (one_slot r start) log n
  run_forth log n run k lt =
      let s : Budgeted S = stands ruled log k in
      let P : S → Type 0 = λ t. choice_at log k < (if r.mark t then 0 else r.width t) in
      subst P (state_is log k) (choice_forth (r.mark s.state) (r.width s.state) s.budget (choice_at log k) (run k lt))

  -- a state at which a run stands
  pub at_state : (s : Budgeted S) (log : List (ℕ × ℕ)) (n : ℕ) → ruled.same s (stands ruled log n) ≡ true →
      r.same s.state (stands (one_slot r start) log n) ≡ true
  at_state s log n at =
      let P : S → Type 0 = λ t. r.same s.state t ≡ true in
      subst P (state_is log n) (same_states r s (stands ruled log n) at)

  pub exceeds_forth : (limits : Limits) → SomeRunExceeds ruled limits → SomeRunExceeds (one_slot r start) limits
  exceeds_forth limits x = record { log = x.log; steps = x.steps; short = x.short; run = run_forth x.log x.steps x.run; more = x.more }

  entry_forth : (limit : ℕ) (e : Entry (Budgeted S)) → IsEntry ruled most limit e → IsEntry (one_slot r start) most limit (plain e)
  entry_forth limit e is = record {
    run = run_forth e.log e.steps is.run;
    at = at_state e.state e.log e.steps is.at;
    station = station_forth (r.same e.state.state start) (e.state.budget == most) (r.mark e.state.state) (r.width e.state.state)
        e.state.budget
        is.station;
    within = is.within;
    log = is.log;
    names = is.names;
    budget = is.budget;
  }

  -- its state knows the budget of the entry
  entry_knows : (limit : ℕ) (e : Entry (Budgeted S)) → IsEntry ruled most limit e → e.state.budget ≡ e.budget
  entry_knows limit e is =
      let short : length e.log ≤ most = omega (arith, is.budget) in
      let all : departures_before e.log e.steps ≡ length e.log = used_all 0 e.steps e.log is.log is.names in
      let at : e.state.budget ≡ (stands ruled e.log e.steps).budget = same_budgets r e.state (stands ruled e.log e.steps) is.at in
      omega (arith, at, budget_is e.log e.steps short, all, is.budget)

  plain_at : (entries : List (Entry (Budgeted S))) (i : ℕ) (e : Entry S) → slice_get (map plain entries) i ≡ Some e →
      (x : Entry (Budgeted S)) × (slice_get entries i ≡ Some x) × (plain x ≡ e)
  plain_at [] i e at = absurd (none-some e at)
  plain_at (x ∷ entries) zero e at = (x, refl, same_Some (plain x) e at)
  plain_at (x ∷ entries) (suc i) e at = plain_at entries i e at

  pub entries_forth : (limits : Limits) → limits.depart ≡ most → HasEntries ruled limits → HasEntries (one_slot r start) limits
  entries_forth limits is h =
      let allowed : (i : ℕ) (x : Entry (Budgeted S)) → slice_get h.entries i ≡ Some x → IsEntry ruled most limits.steps x = λ i x at.
      (let P : ℕ → Type 0 = λ k. IsEntry ruled k limits.steps x in subst P is (h.allowed i x at)) in
      record {
        entries = map plain h.entries;
        count = omega (arith, h.count, length-map h.entries plain);
        allowed = λ i e at. (
            let x = plain_at h.entries i e at in
            let P : ℕ → Type 0 = λ k. IsEntry (one_slot r start) k limits.steps e in
            let Q : Entry S → Type 0 = λ y. IsEntry (one_slot r start) most limits.steps y in
            subst P (sym is) (subst Q x.2 (entry_forth limits.steps x.0 (allowed i x.0 x.1))));
        differ = λ i j e f lt at also same budget. (
            let x = plain_at h.entries i e at in
            let y = plain_at h.entries j f also in
            let one : x.0.budget ≡ e.budget = ap (λ (z : Entry S). z.budget) x.2 in
            let two : y.0.budget ≡ f.budget = ap (λ (z : Entry S). z.budget) y.2 in
            let here : x.0.budget ≡ y.0.budget = omega (arith, one, two, budget) in
            let P : S → Type 0 = λ t. r.same t f.state ≡ true in
            let Q : S → Type 0 = λ t. r.same x.0.state.state t ≡ true in
            let states : r.same x.0.state.state y.0.state.state ≡ true =
            subst Q (sym (ap (λ (z : Entry S). z.state) y.2)) (subst P (sym (ap (λ (z : Entry S). z.state) x.2)) same) in
            let budgets : x.0.state.budget ≡ y.0.state.budget =
            omega (arith, here, entry_knows limits.steps x.0 (allowed i x.0 x.1), entry_knows limits.steps y.0 (allowed j y.0 y.1)) in
            h.differ i j x.0 y.0 lt x.1 y.1 (same_both r x.0.state y.0.state states budgets) here);
      }
