-- *internal*: Runs that go from entry to entry of a set, and the sets that each run passes.
use Rattle.std.specs.Prelude.{◌≡◌, ℕ, ◌+◌, ◌≤◌, zero, suc, true, List, length}
use Rattle.sched_core.specs.Rules.{Rules, stands, choice_at, IsRun}
use Rattle.statebook.specs.Books.{Dominates}
use Rattle.statebook.specs.ExplorerCore.{budget_after}
use Rattle.statebook.specs.Stations.{is_station, forced_state, IsNextStation}
use Rattle.statebook.specs.Ways.{Allows}
use Rattle.statebook.specs.declared.entry.Entry.{Entry}

-- 1 where the choice departs from choice 0
abbrev pub departs : ℕ → ℕ
departs zero = 0
departs (suc c) = 1

-- how many of the first n steps depart
abbrev pub departures_before : List (ℕ × ℕ) → ℕ → ℕ
departures_before log zero = 0
departures_before log (suc n) = departures_before log n + departs (choice_at log n)

-- After p steps the run stands at an entry of the set, whose budget is enough for what is left.
pub record IsOnWay {S : Type 0} (r : Rules S) (k : ℕ) (In : Entry S → Type 0) (log : List (ℕ × ℕ)) (p : ℕ) : Type 0 where
  pub entry : Entry S
  pub inside : In entry
  pub same : r.same entry.state (stands r log p) ≡ true
  pub budget : k ≤ entry.budget + departures_before log p

-- An entry of the set dominates the next station after choice c of e.
pub record HasSuccessorIn {S : Type 0} (r : Rules S) (In : Entry S → Type 0) (e : Entry S) (c : ℕ) : Type 0 where
  pub found : Entry S
  pub inside : In found
  pub steps : ℕ
  pub next : IsNextStation r (r.after e.state c) steps
  pub dominates : Dominates r.same found (forced_state r (r.after e.state c) steps) (budget_after e.budget c)

-- So it is after each choice that the budget allows.
abbrev pub LeadsInto : {S : Type 0} → Rules S → (Entry S → Type 0) → Entry S → Type 0
LeadsInto r In e = (c : ℕ) → Allows r e c → HasSuccessorIn r In e c

-- The set is a frontier: each run of at most k departures that ends at a station of this rank or a higher one passes an entry of it.
abbrev pub IsFrontier : {S : Type 0} → Rules S → ℕ → (S → ℕ) → ℕ → (Entry S → Type 0) → Type 0
IsFrontier r k rank least In = (log : List (ℕ × ℕ)) (n : ℕ) → length log ≤ k → IsRun r log n → is_station r (stands r log n) ≡ true →
    least ≤ rank (stands r log n) → (q : ℕ) × (q ≤ n) × IsOnWay r k In log q
