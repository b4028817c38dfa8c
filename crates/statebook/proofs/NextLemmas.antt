-- A run that goes on from an entry by a choice, and then by forced steps.
use Rattle.std.proofs.Common.{◌≡◌, ℕ, ◌+◌, ◌-◌, ◌<◌, ◌≤◌, ◌==◌, zero, suc, true, false, if◌then◌else◌, List, [], ◌∷◌, ◌++◌, length, length-append, arith, ap, refl, sym, ◌∙◌, subst, add-one, below_more, inl, inr}
use Rattle.std.proofs.lemmas.Bool.{cases_lt, ne_eqb}
use Rattle.std.proofs.lemmas.Bool.Decides.{nat_tests}
use Rattle.sched_core.specs.Inner.Reading.{next_from}
use Rattle.sched_core.specs.Logs.{IsLog}
use Rattle.sched_core.specs.Rules.{Rules, IsLawful, stands, choice_at, IsRun, NamesBelow}
use Rattle.sched_core.proofs.LogLemmas.{IsLogFrom-append}
use Rattle.statebook.specs.Stations.{is_station, forced_state, IsNextStation}
use Rattle.statebook.specs.ExplorerCore.{IsEntry, choices_of, budget_after}
use Rattle.statebook.specs.declared.entry.Entry.{Entry}
use Rattle.statebook.proofs.RunLemmas.{is_station_same, width_between}
use Rattle.statebook.specs.declared.limits.Limits.{Limits}
use Rattle.statebook.specs.Ways.{Allows, ChoiceGoesPast, GoesPast, SomeRunExceeds}
use Rattle.statebook.specs.Inner.Forced.{ComesTo, Follows, log_of}
use Rattle.statebook.specs.Inner.Frontiers.{departs}

-- a log that names only steps below n can go on at n
next_from_below : (low n : ℕ) (log : List (ℕ × ℕ)) → low ≤ n → NamesBelow log n → next_from low log ≤ n
next_from_below low n [] h b = h
next_from_below low n (m ∷ log) h b = next_from_below (m.0 + 1) n log (omega (arith, b.0)) b.1

-- and is one then, if the choice departs
pub push_is_log : (log : List (ℕ × ℕ)) (n c : ℕ) → IsLog log → NamesBelow log n → n ≤ 999999 → 1 ≤ c → c ≤ 4294967295 → IsLog (log ++ (n, c) ∷ [])
push_is_log log n c l b step low high = IsLogFrom-append 0 log (n, c) l (record {
  rising = next_from_below 0 n log (omega arith) b;
  step = step;
  low = low;
  high = high;
})

log_of_is_log : (log : List (ℕ × ℕ)) (n c : ℕ) → IsLog log → NamesBelow log n → n ≤ 999999 → c ≤ 4294967295 → IsLog (log_of log n c)
log_of_is_log log n zero l b step high = l
log_of_is_log log n (suc c) l b step high = push_is_log log n (suc c) l b step (omega arith) high

names_later : (log : List (ℕ × ℕ)) (n m : ℕ) → n ≤ m → NamesBelow log n → NamesBelow log m
names_later [] n m h b = tt
names_later (x ∷ log) n m h b = (omega (arith, h, b.0), names_later log n m h b.1)

-- a step that no member names takes choice 0
unnamed : (log : List (ℕ × ℕ)) (n k : ℕ) → n ≤ k → NamesBelow log n → choice_at log k ≡ 0
unnamed [] n k h b = refl
unnamed (m ∷ log) n k h b =
    let other : (m.0 == k) ≡ false = ne_eqb m.0 k (λ e. omega (arith, e, h, b.0)) in
    rw other (unnamed log n k h b.1)

push_before : (log : List (ℕ × ℕ)) (m : ℕ × ℕ) (k : ℕ) → k < m.0 → choice_at (log ++ m ∷ []) k ≡ choice_at log k
push_before [] m k lt = rw (ne_eqb m.0 k (λ e. omega (arith, e, lt))) refl
push_before (x ∷ log) m k lt = ap (λ c. if x.0 == k then x.1 else c) (push_before log m k lt)

push_at : (log : List (ℕ × ℕ)) (n c : ℕ) → NamesBelow log n → choice_at (log ++ (n, c) ∷ []) n ≡ c
push_at [] n c b = let same : (n == n) ≡ true = grind (arith, nat_tests) in rw same refl
push_at (x ∷ log) n c b = rw (ne_eqb x.0 n (λ e. omega (arith, e, b.0))) (push_at log n c b.1)

push_names : (log : List (ℕ × ℕ)) (n c : ℕ) → NamesBelow log n → NamesBelow (log ++ (n, c) ∷ []) (suc n)
push_names [] n c b = (omega arith, tt)
push_names (x ∷ log) n c b = (omega (arith, b.0), push_names log n c b.1)

-- what the log of the longer run says
pub record GoesOnBy (log after : List (ℕ × ℕ)) (n c : ℕ) : Type 0 where
  pub before : (k : ℕ) → k < n → choice_at after k ≡ choice_at log k
  pub at : choice_at after n ≡ c
  pub names : NamesBelow after (suc n)
  pub count : length after ≡ length log + departs c

pub goes_on_by : (log : List (ℕ × ℕ)) (n c : ℕ) → NamesBelow log n → GoesOnBy log (log_of log n c) n c
goes_on_by log n zero b = record { before = λ k lt. refl; at = unnamed log n n (omega arith) b; names = names_later log n (suc n) (omega arith) b; count = omega arith }
goes_on_by log n (suc c) b = record {
  before = λ k lt. push_before log (n, suc c) k lt;
  at = push_at log n (suc c) b;
  names = push_names log n (suc c) b;
  count = length-append log ((n, suc c) ∷ []);
}

-- the longer run stands where the shorter one stood
pub same_so_far : {S : Type 0} (r : Rules S) (log after : List (ℕ × ℕ)) (n : ℕ) → ((k : ℕ) → k < n → choice_at after k ≡ choice_at log k) → (m : ℕ) → m ≤ n → stands r after m ≡ stands r log m
same_so_far r log after n h zero le = refl
same_so_far r log after n h (suc m) le = λ i. r.after (same_so_far r log after n h m (omega (arith, le)) i) (h m (omega (arith, le)) i)

-- a run comes to a state after so many steps
pub record Reaches {S : Type 0} (r : Rules S) (log : List (ℕ × ℕ)) (s : S) (n : ℕ) : Type 0 where
  pub run : IsRun r log n
  pub at : r.same s (stands r log n) ≡ true

one_step : {S : Type 0} (r : Rules S) → IsLawful r → (log : List (ℕ × ℕ)) (s t : S) (n c : ℕ) → Reaches r log s n → choice_at log n ≡ c → c < r.width s → r.same t (r.after s c) ≡ true → Reaches r log t (suc n)
one_step {S} r law log s t n c h is lt e =
    let wide : r.width s ≡ r.width (stands r log n) = law.width_same s (stands r log n) h.at in
    let more : IsRun r log (n + 1) = below_more (λ k. choice_at log k < r.width (stands r log k)) n h.run (omega (arith, is, lt, wide)) in
    let step : r.same (r.after s c) (r.after (stands r log n) c) ≡ true = law.after_same s (stands r log n) c h.at lt in
    let P : ℕ → Type 0 = λ d. r.same t (r.after (stands r log n) d) ≡ true in
    record {
      run = rw add-one at more;
      at = subst P (sym is) (law.transitive t (r.after s c) (r.after (stands r log n) c) e step);
    }

-- an entry's run goes on by a choice
pub first_step : {S : Type 0} (r : Rules S) → IsLawful r → (k limit : ℕ) (e : Entry S) (after : List (ℕ × ℕ)) (c : ℕ) (t : S) → IsEntry r k limit e → GoesOnBy e.log after e.steps c → c < r.width e.state → r.same t (r.after e.state c) ≡ true → Reaches r after t (suc e.steps)
first_step {S} r law k limit e after c t is g lt to =
    let here : stands r after e.steps ≡ stands r e.log e.steps = same_so_far r e.log after e.steps g.before e.steps (omega arith) in
    let P : S → Type 0 = λ s. r.same e.state s ≡ true in
    let run : IsRun r after e.steps = λ j less.
    (let at : stands r after j ≡ stands r e.log j = same_so_far r e.log after e.steps g.before j (omega (arith, less)) in
    let wide : r.width (stands r after j) ≡ r.width (stands r e.log j) = ap r.width at in
    omega (arith, is.run j less, g.before j less, wide)) in
    one_step r law after e.state t e.steps c (record { run = run; at = subst P (sym here) is.at }) g.at lt to

-- and by forced steps
pub forced_on : {S : Type 0} (r : Rules S) → IsLawful r → (log : List (ℕ × ℕ)) (t : S) (from : ℕ) → NamesBelow log from → Reaches r log t from → (m : ℕ) → ((j : ℕ) → j < m → is_station r (forced_state r t j) ≡ false) → Reaches r log (forced_state r t m) (from + m)
forced_on {S} r law log t from b h zero passes =
    let P : ℕ → Type 0 = λ n. Reaches r log t n in
    let same : from ≡ from + 0 = omega arith in
    subst P same h
forced_on {S} r law log t from b h (suc m) passes =
    let before : Reaches r log (forced_state r t m) (from + m) = forced_on r law log t from b h m (λ j lt. passes j (omega (arith, lt))) in
    let one : r.width (forced_state r t m) ≡ 1 = width_between r (forced_state r t m) (passes m (omega arith)) in
    let P : ℕ → Type 0 = λ n. Reaches r log (forced_state r t (suc m)) n in
    let same : suc (from + m) ≡ from + suc m = omega arith in
    subst P same (one_step r law log (forced_state r t m) (forced_state r t (suc m)) (from + m) 0 before (unnamed log from (from + m) (omega arith) b) (omega arith) (law.reflexive (forced_state r t (suc m))))

pub allowed_width : (w b c : ℕ) → c < choices_of w b → c < w
allowed_width w zero c lt = omega (arith, lt)
allowed_width w (suc b) c lt = lt

-- the departures and the budget keep their sum
pub budget_kept : (w b c : ℕ) → c < choices_of w b → budget_after b c + departs c ≡ b
budget_kept w b zero lt = omega arith
budget_kept w zero (suc c) lt = absurd (omega (arith, lt))
budget_kept w (suc b) (suc c) lt = omega arith

pub forced_same : {S : Type 0} (r : Rules S) → IsLawful r → (s t : S) (n : ℕ) → r.same s t ≡ true → ((j : ℕ) → j < n → is_station r (forced_state r s j) ≡ false) → r.same (forced_state r s n) (forced_state r t n) ≡ true
forced_same r law s t zero e passes = e
forced_same r law s t (suc n) e passes =
    let before : r.same (forced_state r s n) (forced_state r t n) ≡ true = forced_same r law s t n e (λ j lt. passes j (omega (arith, lt))) in
    let one : r.width (forced_state r s n) ≡ 1 = width_between r (forced_state r s n) (passes n (omega arith)) in
    law.after_same (forced_state r s n) (forced_state r t n) 0 before (omega arith)

-- equal states have their next stations after as many steps
pub next_same : {S : Type 0} (r : Rules S) → IsLawful r → (s t : S) (n : ℕ) → r.same s t ≡ true → IsNextStation r s n → IsNextStation r t n
next_same r law s t n e x = record {
  passes = λ j lt.
      (let alike : r.same (forced_state r s j) (forced_state r t j) ≡ true = forced_same r law s t j e (λ i less. x.passes i (omega (arith, less, lt))) in
      sym (is_station_same r law (forced_state r s j) (forced_state r t j) alike) ∙ x.passes j lt);
  station =
      (let alike : r.same (forced_state r s n) (forced_state r t n) ≡ true = forced_same r law s t n e x.passes in
      sym (is_station_same r law (forced_state r s n) (forced_state r t n) alike) ∙ x.station);
}

pub follows_from : {S : Type 0} (r : Rules S) → IsLawful r → (e next : Entry S) (c taken n : ℕ) (start : S) → r.same start (r.after e.state c) ≡ true → ComesTo r start taken next.state n → next.budget ≡ budget_after e.budget c → Follows r e c next
follows_from r law e next c taken n start to way b = record {
  steps = way.forced_steps;
  station = next_same r law start (r.after e.state c) way.forced_steps to way.next;
  same = law.transitive next.state (forced_state r start way.forced_steps) (forced_state r (r.after e.state c) way.forced_steps) way.same
      (forced_same r law start (r.after e.state c) way.forced_steps to way.next.passes);
  budget = b;
}

pub entry_from : {S : Type 0} (r : Rules S) → IsLawful r → (k limit : ℕ) (e next : Entry S) (c : ℕ) (start : S) → IsEntry r k limit e → c < choices_of (r.width e.state) e.budget → e.steps ≤ 999999 → c ≤ 4294967295 → next.log ≡ log_of e.log e.steps c → r.same start (r.after e.state c) ≡ true → ComesTo r start (e.steps + 1) next.state next.steps → next.steps ≤ limit → next.budget ≡ budget_after e.budget c → IsEntry r k limit next
entry_from {S} r law k limit e next c start is lt step high log to way within b =
    let g : GoesOnBy e.log (log_of e.log e.steps c) e.steps c = goes_on_by e.log e.steps c is.names in
    let G : List (ℕ × ℕ) → Type 0 = λ l. GoesOnBy e.log l e.steps c in
    let goes : GoesOnBy e.log next.log e.steps c = subst G (sym log) g in
    let L : List (ℕ × ℕ) → Type 0 = λ l. IsLog l in
    let first : Reaches r next.log start (suc e.steps) = first_step r law k limit e next.log c start is goes (allowed_width (r.width e.state) e.budget c lt) to in
    let P : ℕ → Type 0 = λ n. Reaches r next.log (forced_state r start way.forced_steps) n in
    let count : suc e.steps + way.forced_steps ≡ next.steps = omega (arith, way.count) in
    let there : Reaches r next.log (forced_state r start way.forced_steps) next.steps =
    subst P count (forced_on r law next.log start (suc e.steps) goes.names first way.forced_steps way.next.passes) in
    record {
      run = there.run;
      at = law.transitive next.state (forced_state r start way.forced_steps) (stands r next.log next.steps) way.same there.at;
      station = is_station_same r law next.state (forced_state r start way.forced_steps) way.same ∙ way.next.station;
      within = within;
      log = subst L (sym log) (log_of_is_log e.log e.steps c is.log is.names step high);
      names = names_later next.log (suc e.steps) next.steps (omega (arith, count)) goes.names;
      budget = omega (arith, b, goes.count, is.budget, budget_kept (r.width e.state) e.budget c lt);
    }

-- where the forced way has no station within the limit, the run takes more steps
exceeds_from : {S : Type 0} (r : Rules S) → IsLawful r → (limits : Limits) (e : Entry S) (c : ℕ) (start : S) → IsEntry r limits.depart limits.steps e → c < choices_of (r.width e.state) e.budget → r.same start (r.after e.state c) ≡ true → e.steps + 1 ≤ limits.steps → GoesPast r start (e.steps + 1) limits.steps → SomeRunExceeds r limits
exceeds_from {S} r law limits e c start is lt to within past =
    let after : List (ℕ × ℕ) = log_of e.log e.steps c in
    let goes : GoesOnBy e.log after e.steps c = goes_on_by e.log e.steps c is.names in
    let first : Reaches r after start (suc e.steps) = first_step r law limits.depart limits.steps e after c start is goes (allowed_width (r.width e.state) e.budget c lt) to in
    let m : ℕ = limits.steps - e.steps in
    let there : Reaches r after (forced_state r start m) (suc e.steps + m) =
    forced_on r law after start (suc e.steps) goes.names first m (λ j less. past j (omega (arith, less))) in
    record {
      log = after;
      steps = suc e.steps + m;
      short = omega (arith, goes.count, is.budget, budget_kept (r.width e.state) e.budget c lt);
      run = there.run;
      more = omega arith;
    }

-- where an entry stands at the limit, a further choice takes more steps
exceeds_at : {S : Type 0} (r : Rules S) → IsLawful r → (limits : Limits) (e : Entry S) (c : ℕ) → IsEntry r limits.depart limits.steps e → c < choices_of (r.width e.state) e.budget → e.steps ≡ limits.steps → SomeRunExceeds r limits
exceeds_at {S} r law limits e c is lt full =
    let after : List (ℕ × ℕ) = log_of e.log e.steps c in
    let goes : GoesOnBy e.log after e.steps c = goes_on_by e.log e.steps c is.names in
    let first : Reaches r after (r.after e.state c) (suc e.steps) =
    first_step r law limits.depart limits.steps e after c (r.after e.state c) is goes (allowed_width (r.width e.state) e.budget c lt) (law.reflexive (r.after e.state c)) in
    record {
      log = after;
      steps = suc e.steps;
      short = omega (arith, goes.count, is.budget, budget_kept (r.width e.state) e.budget c lt);
      run = first.run;
      more = omega arith;
    }

-- so it is wherever the way after a choice goes past the limit
pub exceeds : {S : Type 0} (r : Rules S) → IsLawful r → (limits : Limits) (e : Entry S) (c : ℕ) → IsEntry r limits.depart limits.steps e → Allows r e c → ChoiceGoesPast r limits e c → SomeRunExceeds r limits
exceeds r law limits e c is lt past = elim (cases_lt e.steps limits.steps) [
  | inl less ↦ exceeds_from r law limits e c (r.after e.state c) is lt (law.reflexive (r.after e.state c)) (omega (arith, less)) past
  | inr ge ↦ exceeds_at r law limits e c is lt (omega (arith, ge, is.within))
]

-- a step of a copy leads where a step of the state does
pub stepped : {S : Type 0} (r : Rules S) → IsLawful r → (copy s t : S) (c : ℕ) → r.same copy s ≡ true → c < r.width s → r.same t (r.after copy c) ≡ true → r.same t (r.after s c) ≡ true
stepped r law copy s t c e lt to =
    let wide : r.width copy ≡ r.width s = law.width_same copy s e in
    law.transitive t (r.after copy c) (r.after s c) to (law.after_same copy s c e (omega arith))
