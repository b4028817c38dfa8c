-- A run goes from entry to entry of a set as long as their choices lead into it; so a frontier moves on from rank to rank.
use Rattle.std.proofs.Common.{◌≡◌, ℕ, ◌+◌, ◌-◌, ◌<◌, ◌≤◌, zero, suc, true, false, List, length, arith, subst, ◌⊎◌, inl, inr}
use Rattle.std.proofs.lemmas.Bool.{cases_lt}
use Rattle.sched_core.specs.Ranks.{IsRanked}
use Rattle.sched_core.specs.Rules.{Rules, IsLawful, stands, choice_at, IsRun}
use Rattle.statebook.specs.declared.entry.Entry.{Entry}
use Rattle.statebook.specs.Stations.{is_station, forced_state}
use Rattle.statebook.specs.ExplorerCore.{IsEntry, choices_of, budget_after}
use Rattle.statebook.specs.Inner.Forced.{log_of}
use Rattle.statebook.specs.Inner.Frontiers.{departs, departures_before, IsOnWay, HasSuccessorIn, LeadsInto, IsFrontier}
use Rattle.statebook.proofs.RunLemmas.{used-le, used_grows, is_station_same, mark_is_station, GoesAlong, along}
use Rattle.statebook.proofs.NextLemmas.{goes_on_by, same_so_far}

-- what a way from station to station rests on
pub record Way {S : Type 0} (r : Rules S) (k : ℕ) (log : List (ℕ × ℕ)) (n : ℕ) : Type 0 where
  pub law : IsLawful r
  pub short : length log ≤ k
  pub run : IsRun r log n
  pub station : is_station r (stands r log n) ≡ true

-- the choice that the run takes is one that the budget allows
allowed : (width b c k u : ℕ) → c < width → k ≤ b + u → u + departs c ≤ k → c < choices_of width b
allowed width zero zero k u lt h g = omega arith
allowed width zero (suc c) k u lt h g = absurd (omega (arith, h, g))
allowed width (suc b) c k u lt h g = lt

left_after : (b c k u : ℕ) → k ≤ b + u → k ≤ budget_after b c + (u + departs c)
left_after b zero k u h = omega (arith, h)
left_after b (suc c) k u h = omega (arith, h)

-- the end of the run is a station, so it isn't between two
no_end_between : {S : Type 0} (r : Rules S) (k : ℕ) (log : List (ℕ × ℕ)) (n from m : ℕ) (t : S) → Way r k log n → from ≤ n → ((q : ℕ) → q ≤ m → from + q ≤ n → GoesAlong r log t from q (from + q)) → ((j : ℕ) → j < m → is_station r (forced_state r t j) ≡ false) → n < from + m → ⊥
no_end_between {S} r k log n from m t way le goes passes between =
    let q : ℕ = n - from in
    let P : ℕ → Type 0 = λ at. r.same (forced_state r t q) (stands r log at) ≡ true in
    let end : from + q ≡ n = omega arith in
    let same : r.same (forced_state r t q) (stands r log n) ≡ true = subst P end (goes q (omega arith) (omega arith)).same in
    let alike : is_station r (forced_state r t q) ≡ is_station r (stands r log n) = is_station_same r way.law _ _ same in
    let is : is_station r (stands r log n) ≡ true = way.station in
    let not_one : is_station r (forced_state r t q) ≡ false = passes q (omega arith) in
    cc

-- from an entry whose choices lead into a set the run goes on to the next station, which has an entry of it
step_on : {S : Type 0} (r : Rules S) (k : ℕ) (In Into : Entry S → Type 0) (log : List (ℕ × ℕ)) (n p : ℕ) → Way r k log n → (on : IsOnWay r k In log p) → LeadsInto r Into on.entry → p < n → (q : ℕ) × (p < q) × (q ≤ n) × IsOnWay r k Into log q
step_on {S} r k In Into log n p way on leads lt =
    let c : ℕ = choice_at log p in
    let wide : r.width on.entry.state ≡ r.width (stands r log p) = way.law.width_same on.entry.state (stands r log p) on.same in
    let choice : c < r.width on.entry.state = rw wide (way.run p lt) in
    let spent : departures_before log p + departs c ≤ k = omega (arith, used_grows log (suc p) n lt, used-le log n, way.short) in
    let met : HasSuccessorIn r Into on.entry c = leads c (allowed (r.width on.entry.state) on.entry.budget c k (departures_before log p) choice on.budget spent) in
    let t : S = r.after on.entry.state c in
    let start : r.same t (stands r log (suc p)) ≡ true = way.law.after_same on.entry.state (stands r log p) c on.same choice in
    let rest : k ≤ budget_after on.entry.budget c + departures_before log (suc p) = left_after on.entry.budget c k (departures_before log p) on.budget in
    let goes : (q : ℕ) → q ≤ met.steps → suc p + q ≤ n → GoesAlong r log t (suc p) q (suc p + q) =
    along r way.law log n way.run t (suc p) met.steps start met.next.passes in
    elim (cases_lt n (suc p + met.steps)) [
      | inl between ↦ absurd (no_end_between r k log n (suc p) met.steps t way lt goes met.next.passes between)
      | inr reached ↦ (
        suc p + met.steps,
        omega arith,
        reached,
        record {
          entry = met.found;
          inside = met.inside;
          same = way.law.transitive met.found.state (forced_state r t met.steps) (stands r log (suc p + met.steps)) met.dominates.state (goes met.steps (omega arith) reached).same;
          budget = omega (arith, met.dominates.budget, rest, (goes met.steps (omega arith) reached).used_same);
        },
      )
    ]

-- The run has come to its end by entries of the one set, or to an entry of the other.
abbrev pub EndsOrLeaves : {S : Type 0} → Rules S → ℕ → (Entry S → Type 0) → (Entry S → Type 0) → List (ℕ × ℕ) → ℕ → Type 0
EndsOrLeaves r k In Out log n = IsOnWay r k In log n ⊎ ((q : ℕ) × (q ≤ n) × IsOnWay r k Out log q)

-- by so many steps on, the run comes to an entry of the set at its end, or leaves it on the way
arrives : {S : Type 0} (r : Rules S) (k : ℕ) (In Out : Entry S → Type 0) (log : List (ℕ × ℕ)) (n : ℕ) → Way r k log n → ((e : Entry S) → In e → LeadsInto r In e ⊎ Out e) → (fuel p : ℕ) → p ≤ n → n ≤ p + fuel → IsOnWay r k In log p → EndsOrLeaves r k In Out log n
arrives {S} r k In Out log n way each zero p le far on =
    let P : ℕ → Type 0 = λ q. IsOnWay r k In log q in
    let here : p ≡ n = omega arith in
    inl (subst P here on)
arrives {S} r k In Out log n way each (suc fuel) p le far on = elim (cases_lt p n) [
  | inl lt ↦ elim (each on.entry on.inside) [
    | inl leads ↦ (
        let next = step_on r k In In log n p way on leads lt in
        arrives r k In Out log n way each fuel next.0 next.2 (omega (arith, next.1, far)) next.3)
    | inr out ↦ inr (p, le, record { entry = on.entry; inside = out; same = on.same; budget = on.budget })
  ]
  | inr ge ↦ (
      let P : ℕ → Type 0 = λ q. IsOnWay r k In log q in
      let here : p ≡ n = omega arith in
      inl (subst P here on))
]

stays_inside : {S : Type 0} (r : Rules S) (k : ℕ) (In : Entry S → Type 0) (log : List (ℕ × ℕ)) (n : ℕ) → EndsOrLeaves r k In (λ e. ⊥) log n → IsOnWay r k In log n
stays_inside r k In log n (inl on) = on
stays_inside r k In log n (inr left) = absurd left.2.inside

-- where all choices of a set's entries lead into it, a run that begins in it ends in it
pub goes_through : {S : Type 0} (r : Rules S) (k : ℕ) (In : Entry S → Type 0) (log : List (ℕ × ℕ)) (n : ℕ) → Way r k log n → ((e : Entry S) → In e → LeadsInto r In e) → IsOnWay r k In log 0 → IsOnWay r k In log n
goes_through r k In log n way leads on =
    stays_inside r k In log n (arrives r k In (λ e. ⊥) log n way (λ e is. inl (leads e is)) n 0 (omega arith) (omega arith) on)

-- ranks don't fall along a run
pub rank_rises : {S : Type 0} (r : Rules S) (rank : S → ℕ) → IsRanked r rank → (log : List (ℕ × ℕ)) (p n : ℕ) → IsRun r log n → p ≤ n → rank (stands r log p) ≤ rank (stands r log n)
rank_rises r rank ranked log p zero run le =
    let same : p ≡ 0 = omega arith in
    rw same (omega arith)
rank_rises r rank ranked log p (suc n) run le = elim (cases_lt n p) [
  | inl lt ↦ (
      let same : p ≡ suc n = omega arith in
      rw same (omega arith))
  | inr ge ↦ omega (arith, rank_rises r rank ranked log p n (λ j lt. run j (omega (arith, lt))) ge, ranked.rises log n run)
]

-- the root's entry is a frontier, whatever the rank
pub root_frontier : {S : Type 0} (r : Rules S) (k : ℕ) (rank : S → ℕ) (least : ℕ) (In : Entry S → Type 0) (e : Entry S) → In e → r.same e.state r.first ≡ true → e.budget ≡ k → IsFrontier r k rank least In
root_frontier r k rank least In e inside same budget log n short run station high =
    (0, omega arith, record { entry = e; inside = inside; same = same; budget = omega (arith, budget) })

-- what is known of a rank as it is closed: all its entries lead on, and those that wait have higher ranks
pub record IsWorkedOff {S : Type 0} (r : Rules S) (k : ℕ) (rank : S → ℕ) (least : ℕ) (Now Later : Entry S → Type 0) : Type 0 where
  pub frontier : IsFrontier r k rank least (λ e. Now e ⊎ Later e)
  pub leads : (e : Entry S) → Now e → LeadsInto r (λ f. Now f ⊎ Later f) e
  pub now : (e : Entry S) → Now e → rank e.state ≡ least
  pub later : (e : Entry S) → Later e → least < rank e.state

leads_or_waits : {S : Type 0} (r : Rules S) (Now Later : Entry S → Type 0) → ((e : Entry S) → Now e → LeadsInto r (λ f. Now f ⊎ Later f) e) → (e : Entry S) → Now e ⊎ Later e → LeadsInto r (λ f. Now f ⊎ Later f) e ⊎ Later e
leads_or_waits r Now Later leads e (inl now) = inl (leads e now)
leads_or_waits r Now Later leads e (inr later) = inr later

-- a run that ends at this rank or a higher one ends at an entry, or passes one that waits
ends_or_waits : {S : Type 0} (r : Rules S) (k : ℕ) (rank : S → ℕ) (least : ℕ) (Now Later : Entry S → Type 0) → IsWorkedOff r k rank least Now Later → (log : List (ℕ × ℕ)) (n : ℕ) → Way r k log n → least ≤ rank (stands r log n) → EndsOrLeaves r k (λ e. Now e ⊎ Later e) Later log n
ends_or_waits r k rank least Now Later w log n way high =
    let on = w.frontier log n way.short way.run way.station high in
    arrives r k (λ e. Now e ⊎ Later e) Later log n way (leads_or_waits r Now Later w.leads) (n - on.0) on.0 on.1 (omega arith) on.2

later_frontier_at : {S : Type 0} (r : Rules S) (k : ℕ) (rank : S → ℕ) → IsRanked r rank → (least : ℕ) (Now Later : Entry S → Type 0) → IsWorkedOff r k rank least Now Later → (log : List (ℕ × ℕ)) (n : ℕ) → least < rank (stands r log n) → EndsOrLeaves r k (λ e. Now e ⊎ Later e) Later log n → (q : ℕ) × (q ≤ n) × IsOnWay r k Later log q
later_frontier_at r k rank ranked least Now Later w log n high (inl on) = elim on.inside [
  | inl now ↦ absurd (omega (arith, w.now on.entry now, ranked.rank_same on.entry.state (stands r log n) on.same, high))
  | inr later ↦ (n, omega arith, record { entry = on.entry; inside = later; same = on.same; budget = on.budget })
]
later_frontier_at r k rank ranked least Now Later w log n high (inr left) = left

-- the entries that wait are the frontier of all higher ranks
pub later_frontier : {S : Type 0} (r : Rules S) → IsLawful r → (k : ℕ) (rank : S → ℕ) → IsRanked r rank → (least above : ℕ) (Now Later : Entry S → Type 0) → IsWorkedOff r k rank least Now Later → least < above → IsFrontier r k rank above Later
later_frontier r law k rank ranked least above Now Later w lt log n short run station high =
    later_frontier_at r k rank ranked least Now Later w log n (omega (arith, lt, high))
    (ends_or_waits r k rank least Now Later w log n (record { law = law; short = short; run = run; station = station }) (omega (arith, lt, high)))

ends_now_at : {S : Type 0} (r : Rules S) (k : ℕ) (rank : S → ℕ) → IsRanked r rank → (least : ℕ) (Now Later : Entry S → Type 0) → IsWorkedOff r k rank least Now Later → (log : List (ℕ × ℕ)) (n : ℕ) → IsRun r log n → rank (stands r log n) ≡ least → EndsOrLeaves r k (λ e. Now e ⊎ Later e) Later log n → IsOnWay r k Now log n
ends_now_at r k rank ranked least Now Later w log n run here (inl on) = elim on.inside [
  | inl now ↦ record { entry = on.entry; inside = now; same = on.same; budget = on.budget }
  | inr later ↦ absurd (omega (arith, w.later on.entry later, ranked.rank_same on.entry.state (stands r log n) on.same, here))
]
ends_now_at r k rank ranked least Now Later w log n run here (inr (q, le, on)) =
    absurd (omega (arith, w.later on.entry on.inside, ranked.rank_same on.entry.state (stands r log q) on.same, rank_rises r rank ranked log q n run le, here))

-- a run that ends at a mark of the rank ends at one of its entries
pub ends_now : {S : Type 0} (r : Rules S) → IsLawful r → (k : ℕ) (rank : S → ℕ) → IsRanked r rank → (least : ℕ) (Now Later : Entry S → Type 0) → IsWorkedOff r k rank least Now Later → (log : List (ℕ × ℕ)) (n : ℕ) → length log ≤ k → IsRun r log n → r.mark (stands r log n) ≡ true → rank (stands r log n) ≡ least → IsOnWay r k Now log n
ends_now r law k rank ranked least Now Later w log n short run mark here =
    ends_now_at r k rank ranked least Now Later w log n run here
    (ends_or_waits r k rank least Now Later w log n (record { law = law; short = short; run = run; station = mark_is_station r (stands r log n) mark }) (omega (arith, here)))

-- no run comes to a mark between the rank that was closed and the least that waits
pub none_between : {S : Type 0} (r : Rules S) → IsLawful r → (k : ℕ) (rank : S → ℕ) → IsRanked r rank → (least above : ℕ) (Now Later : Entry S → Type 0) → IsWorkedOff r k rank least Now Later → ((e : Entry S) → Later e → above ≤ rank e.state) → (log : List (ℕ × ℕ)) (n : ℕ) → length log ≤ k → IsRun r log n → r.mark (stands r log n) ≡ true → least < rank (stands r log n) → above ≤ rank (stands r log n)
none_between r law k rank ranked least above Now Later w waits log n short run mark high =
    let on = later_frontier r law k rank ranked least (rank (stands r log n)) Now Later w high log n short run (mark_is_station r (stands r log n) mark) (omega arith) in
    omega (arith, waits on.2.entry on.2.inside, ranked.rank_same on.2.entry.state (stands r log on.0) on.2.same, rank_rises r rank ranked log on.0 n run on.1)

-- an entry that follows another by a choice has no lower rank
pub follower_rises : {S : Type 0} (r : Rules S) (rank : S → ℕ) → IsRanked r rank → (k limit : ℕ) (e next : Entry S) (c : ℕ) → IsEntry r k limit e → IsEntry r k limit next → next.log ≡ log_of e.log e.steps c → e.steps ≤ next.steps → rank e.state ≤ rank next.state
follower_rises {S} r rank ranked k limit e next c is follows log later =
    let R : List (ℕ × ℕ) → Type 0 = λ l. rank (stands r l e.steps) ≤ rank (stands r l next.steps) in
    let here : stands r (log_of e.log e.steps c) e.steps ≡ stands r e.log e.steps =
    same_so_far r e.log (log_of e.log e.steps c) e.steps (goes_on_by e.log e.steps c is.names).before e.steps (omega arith) in
    let at : r.same next.state (stands r next.log next.steps) ≡ true = follows.at in
    let rises : rank (stands r (log_of e.log e.steps c) e.steps) ≤ rank (stands r (log_of e.log e.steps c) next.steps) =
    subst R log (rank_rises r rank ranked next.log e.steps next.steps follows.run later) in
    let Q : List (ℕ × ℕ) → Type 0 = λ l. rank next.state ≡ rank (stands r l next.steps) in
    let end : rank next.state ≡ rank (stands r (log_of e.log e.steps c) next.steps) = subst Q log (ranked.rank_same next.state (stands r next.log next.steps) at) in
    let T : S → Type 0 = λ s. rank s ≤ rank next.state in
    rw (ranked.rank_same e.state (stands r e.log e.steps) is.at) (subst T here (omega (arith, rises, end)))
