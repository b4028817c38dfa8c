-- Facts about forced ways and the runs that take them.
use Rattle.std.proofs.Common.{◌≡◌, ℕ, ◌+◌, ◌-◌, ◌<◌, ◌≤◌, zero, suc, true, false, List, [], ◌∷◌, ◌++◌, Option, Some, None, slice_get, arith, ap, sym, ◌∙◌, subst, inl, inr}
use Rattle.statebook.specs.declared.entry.Entry.{Entry}
use Rattle.std.proofs.lemmas.Bool.{cases_lt}
use Rattle.sched_core.specs.Rules.{Rules, IsLawful}
use Rattle.statebook.specs.Stations.{is_station, forced_state}
use Rattle.statebook.proofs.RunLemmas.{is_station_same}
use Rattle.statebook.specs.declared.limits.Limits.{Limits}
use Rattle.statebook.specs.Ways.{GoesPast}
use Rattle.statebook.specs.Inner.Forced.{ComesTo, Passes}
use Rattle.explore.specs.Inner.Ways.{AllCome, AllGoPast, LeadsTo}
use Rattle.explore.specs.declared.search.Checkpoint.{Checkpoint}
use Rattle.basis.proofs.Lists.{last_or_before}
use Rattle.statebook.proofs.NextLemmas.{forced_same}

-- forced steps after forced steps
forced_on : {S : Type 0} (r : Rules S) (s : S) (m i : ℕ) → forced_state r (forced_state r s m) i ≡ forced_state r s (m + i)
forced_on r s m zero = let e : m ≡ m + 0 = omega arith in ap (forced_state r s) e
forced_on r s m (suc i) =
    let e : suc (m + i) ≡ m + suc i = omega arith in
    ap (λ t. r.after t 0) (forced_on r s m i) ∙ ap (forced_state r s) e

-- behind a state on a way the way goes on as it does from the state
behind : {S : Type 0} (r : Rules S) → IsLawful r → (s t : S) (m i : ℕ) → Passes r s t m → ((j : ℕ) → j < i → is_station r (forced_state r t j) ≡ false) → r.same (forced_state r t i) (forced_state r s (m + i)) ≡ true
behind {S} r law s t m i p none =
    let P : S → Type 0 = λ u. r.same (forced_state r t i) u ≡ true in
    subst P (forced_on r s m i) (forced_same r law t (forced_state r s m) i p.same none)

station_behind : {S : Type 0} (r : Rules S) → IsLawful r → (s t : S) (m i : ℕ) → Passes r s t m → ((j : ℕ) → j < i → is_station r (forced_state r t j) ≡ false) → is_station r (forced_state r s (m + i)) ≡ is_station r (forced_state r t i)
station_behind r law s t m i p none = sym (is_station_same r law (forced_state r t i) (forced_state r s (m + i)) (behind r law s t m i p none))

none_behind : {S : Type 0} (r : Rules S) → IsLawful r → (s t : S) (m n : ℕ) → Passes r s t m → ((j : ℕ) → j < n → is_station r (forced_state r t j) ≡ false) → (j : ℕ) → j < m + n → is_station r (forced_state r s j) ≡ false
none_behind {S} r law s t m n p none j lt = elim (cases_lt j m) [
  | inl before ↦ p.passes j before
  | inr ge ↦ (
      let i : ℕ = j - m in
      let P : ℕ → Type 0 = λ k. is_station r (forced_state r s k) ≡ false in
      let at : m + i ≡ j = omega (arith, ge) in
      let less : i < n = omega (arith, lt, ge) in
      subst P at (station_behind r law s t m i p (λ k before. none k (omega (arith, before, less))) ∙ none i less))
]

pub passes_on : {S : Type 0} (r : Rules S) → IsLawful r → (s t u : S) (m n : ℕ) → Passes r s t m → Passes r t u n → Passes r s u (m + n)
passes_on r law s t u m n p q = record {
  same = law.transitive u (forced_state r t n) (forced_state r s (m + n)) q.same (behind r law s t m n p q.passes);
  passes = none_behind r law s t m n p q.passes;
}

pub comes_on : {S : Type 0} (r : Rules S) → IsLawful r → (s t u : S) (m taken n reached : ℕ) → Passes r s t m → taken + m ≡ n → ComesTo r t n u reached → ComesTo r s taken u reached
comes_on r law s t u m taken n reached p count way = record {
  forced_steps = m + way.forced_steps;
  count = omega (arith, way.count, count);
  next = record {
    passes = none_behind r law s t m way.forced_steps p way.next.passes;
    station = station_behind r law s t m way.forced_steps p way.next.passes ∙ way.next.station;
  };
  same = law.transitive u (forced_state r t way.forced_steps) (forced_state r s (m + way.forced_steps)) way.same (behind r law s t m way.forced_steps p way.next.passes);
}

pub past_on : {S : Type 0} (r : Rules S) → IsLawful r → (s t : S) (m taken n limit : ℕ) → Passes r s t m → taken + m ≡ n → n ≤ limit → GoesPast r t n limit → GoesPast r s taken limit
past_on r law s t m taken n limit p count within past j le =
    none_behind r law s t m (suc (limit - n)) p (λ i lt. past i (omega (arith, lt, within))) j (omega (arith, le, count, within))

-- a state has come to one that is equal in no step
pub comes_itself : {S : Type 0} (r : Rules S) (s t : S) → r.same t s ≡ true → Passes r s t 0
comes_itself r s t e = record { same = e; passes = λ j lt. absurd (omega (arith, lt)) }

-- equal states lead to the same
pub leads_same : {S : Type 0} (r : Rules S) → IsLawful r → (entries : List (Entry S)) (s t : S) (steps : ℕ) (station : Option ℕ) → r.same t s ≡ true → LeadsTo r entries t steps station → LeadsTo r entries s steps station
leads_same r law entries s t steps (Some place) e (x, at, way) =
    (x, at, comes_on r law s t x.state 0 0 0 steps (comes_itself r s t e) (omega arith) way)
leads_same r law entries s t steps None e none = λ j lt. none_behind r law s t 0 steps (comes_itself r s t e) none j (omega (arith, lt))

-- on what leads somewhere there is no station before
leads_open : {S : Type 0} (r : Rules S) (entries : List (Entry S)) (t : S) (steps : ℕ) (station : Option ℕ) → LeadsTo r entries t steps station → (j : ℕ) → j < steps → is_station r (forced_state r t j) ≡ false
leads_open r entries t steps (Some place) (x, at, way) = λ j lt. way.next.passes j (omega (arith, way.count, lt))
leads_open r entries t steps None none = none

-- more steps than are left
pub leads_past : {S : Type 0} (r : Rules S) (entries : List (Entry S)) (s : S) (steps n limit : ℕ) (station : Option ℕ) → LeadsTo r entries s steps station → limit - n < steps → GoesPast r s n limit
leads_past r entries s steps n limit station leads more j le = leads_open r entries s steps station leads j (omega (arith, more, le))

-- a copy of the station's state stands where the way comes to
pub leads_there : {S : Type 0} (r : Rules S) → IsLawful r → (s t u : S) (n steps : ℕ) → ComesTo r s 0 t steps → r.same u t ≡ true → ComesTo r s n u (n + steps)
leads_there r law s t u n steps way e = record {
  forced_steps = way.forced_steps;
  count = omega (arith, way.count);
  next = way.next;
  same = law.transitive u t (forced_state r s way.forced_steps) e way.same;
}

-- the way from the start has come to the state after n steps, by the checkpoints
pub record OnWay {S : Type 0} (r : Rules S) (start s : S) (taken n : ℕ) (checkpoints : List (Checkpoint S)) : Type 0 where
  pub low : taken ≤ n
  pub way : Passes r start s (n - taken)
  pub marks : (i : ℕ) (l : Checkpoint S) → slice_get checkpoints i ≡ Some l → (l.taken ≤ n) × Passes r l.state s (n - l.taken)

pub way_opens : {S : Type 0} (r : Rules S) → IsLawful r → (s : S) (taken : ℕ) (checkpoints : List (Checkpoint S)) → checkpoints ≡ [] → OnWay r s s taken taken checkpoints
way_opens {S} r law s taken checkpoints none =
    let P : List (Checkpoint S) → Type 0 = λ ls. OnWay r s s taken taken ls in
    let Q : ℕ → Type 0 = λ m. Passes r s s m in
    let no_step : 0 ≡ taken - taken = omega arith in
    subst P (sym none) (record { low = omega arith; way = subst Q no_step (comes_itself r s s (law.reflexive s)); marks = λ i l at. absurd cc })

passes_more : {S : Type 0} (r : Rules S) → IsLawful r → (s t u : S) (taken n more : ℕ) → taken ≤ n → Passes r s t (n - taken) → Passes r t u more → Passes r s u (n + more - taken)
passes_more {S} r law s t u taken n more low p q =
    let P : ℕ → Type 0 = λ m. Passes r s u m in
    let count : (n - taken) + more ≡ n + more - taken = omega (arith, low) in
    subst P count (passes_on r law s t u (n - taken) more p q)

pub way_goes_on : {S : Type 0} (r : Rules S) → IsLawful r → (start s t : S) (taken n more later : ℕ) (checkpoints : List (Checkpoint S)) → OnWay r start s taken n checkpoints → Passes r s t more → n + more ≡ later → OnWay r start t taken later checkpoints
way_goes_on {S} r law start s t taken n more later checkpoints h q count =
    let P : ℕ → Type 0 = λ m. OnWay r start t taken m checkpoints in
    subst P count (record {
      low = omega (arith, h.low);
      way = passes_more r law start s t taken n more h.low h.way q;
      marks = λ i l at. (let m = h.marks i l at in (omega (arith, m.0), passes_more r law l.state s t l.taken n more m.0 m.1 q));
    })

pub way_marked : {S : Type 0} (r : Rules S) → IsLawful r → (start s copy : S) (taken n : ℕ) (checkpoints more : List (Checkpoint S)) → OnWay r start s taken n checkpoints → r.same copy s ≡ true → more ≡ checkpoints ++ record { state = copy; taken = n } ∷ [] → OnWay r start s taken n more
way_marked {S} r law start s copy taken n checkpoints more h e items =
    let P : List (Checkpoint S) → Type 0 = λ ls. OnWay r start s taken n ls in
    let itself : Passes r copy s 0 = comes_itself r copy s (law.symmetric copy s e) in
    subst P (sym items) (record {
      low = h.low;
      way = h.way;
      marks = λ i l at. elim (last_or_before checkpoints (record { state = copy; taken = n }) i l at) [
        | inl there ↦ h.marks i l there
        | inr last ↦ (
            let Q : Checkpoint S → Type 0 = λ x. (x.taken ≤ n) × Passes r x.state s (n - x.taken) in
            let R : ℕ → Type 0 = λ m. Passes r copy s m in
            let no_step : 0 ≡ n - n = omega arith in
            subst Q last.1 (omega arith, subst R no_step itself))
      ];
    })

-- what the way comes to from the state, it comes to from the start, and from each checkpoint
pub way_comes : {S : Type 0} (r : Rules S) → IsLawful r → (start s t : S) (taken n reached : ℕ) (checkpoints : List (Checkpoint S)) → OnWay r start s taken n checkpoints → ComesTo r s n t reached → ComesTo r start taken t reached
way_comes r law start s t taken n reached checkpoints h way = comes_on r law start s t (n - taken) taken n reached h.way (omega (arith, h.low)) way

pub marks_come : {S : Type 0} (r : Rules S) → IsLawful r → (start s t : S) (taken n reached : ℕ) (checkpoints : List (Checkpoint S)) → OnWay r start s taken n checkpoints → ComesTo r s n t reached → AllCome r checkpoints t reached
marks_come r law start s t taken n reached checkpoints h way i l at =
    let m = h.marks i l at in
    comes_on r law l.state s t (n - l.taken) l.taken n reached m.1 (omega (arith, m.0)) way

-- and so where there is no station up to the limit
pub way_past : {S : Type 0} (r : Rules S) → IsLawful r → (start s : S) (taken n limit : ℕ) (checkpoints : List (Checkpoint S)) → OnWay r start s taken n checkpoints → n ≤ limit → GoesPast r s n limit → GoesPast r start taken limit
way_past r law start s taken n limit checkpoints h within past = past_on r law start s (n - taken) taken n limit h.way (omega (arith, h.low)) within past

pub marks_past : {S : Type 0} (r : Rules S) → IsLawful r → (start s : S) (taken n : ℕ) (limits : Limits) (checkpoints : List (Checkpoint S)) → OnWay r start s taken n checkpoints → n ≤ limits.steps → GoesPast r s n limits.steps → AllGoPast r checkpoints limits
marks_past r law start s taken n limits checkpoints h within past i l at =
    let m = h.marks i l at in
    (omega (arith, m.0, within), past_on r law l.state s (n - l.taken) l.taken n limits.steps m.1 (omega (arith, m.0)) within past)
