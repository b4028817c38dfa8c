-- *product rule*: Which runs of a space show what a reference shows, as the dump of another simulator shows values from time to time.
-- Ranks are times, and marks are the ends of slots.
use Rattle.std.specs.Prelude.{◌≡◌, ℕ, ◌+◌, ◌<◌, ◌≤◌, ◌&&◌, ◌⊎◌, suc, max, nat_lt, nat_le, true, false}
use Rattle.std.specs.Prelude.{if◌then◌else◌, List, [], ◌∷◌}
use Rattle.sched_core.specs.Rules.{Rules, stands, IsRun, NamesBelow}

-- What is shown from a time on, up to the time of the next piece: how many of the things that are compared differ in a state.
pub record Piece (S : Type 0) : Type 0 where
  pub from : ℕ
  pub differ : S → ℕ

-- How many differ at time v: the last piece whose time has come is shown; `first` is what is shown before.
abbrev pub differ_at : {S : Type 0} → Piece S → List (Piece S) → ℕ → S → ℕ
differ_at first [] v s = first.differ s
differ_at first (p ∷ ps) v s = if nat_lt v p.from then first.differ s else differ_at p ps v s

-- The greatest of a time and the times of the pieces.
abbrev pub latest_time : {S : Type 0} → ℕ → List (Piece S) → ℕ
latest_time v [] = v
latest_time v (p ∷ ps) = latest_time (max v p.from) ps

-- How many departures a log has in the steps from i to before j.
abbrev pub departures_within : List (ℕ × ℕ) → ℕ → ℕ → ℕ
departures_within [] i j = 0
departures_within (m ∷ log) i j = (if nat_le i m.0 && nat_lt m.0 j then 1 else 0) + departures_within log i j

-- No slot ends from step i to before step j.
abbrev pub NoEndWithin : {S : Type 0} → Rules S → List (ℕ × ℕ) → ℕ → ℕ → Type 0
NoEndWithin r log i j = (m : ℕ) → i ≤ m → m < j → r.mark (stands r log m) ≡ false

-- After step j the run of k steps stands at the end of a slot, and at time v it hasn't begun the next one.
pub record IsAtEnd {S : Type 0} (r : Rules S) (rank : S → ℕ) (log : List (ℕ × ℕ)) (k j v : ℕ) : Type 0 where
  pub within : j ≤ k
  pub mark : r.mark (stands r log j) ≡ true
  pub ended : rank (stands r log j) ≤ v
  pub next : j < k → v < rank (stands r log (suc j))

-- The run under the log, of k steps, shows up to a time what is shown: `shown v s` counts what differs in s at time v.
-- It stands at the end of a slot, and the next one, if any, is later. Between two slots the values of the first stand. No slot
-- has more departures than `most`.
pub record IsExplained {S : Type 0} (r : Rules S) (rank : S → ℕ) (shown : ℕ → S → ℕ) (most upto : ℕ)
    (log : List (ℕ × ℕ)) (k : ℕ) : Type 0 where
  pub run : IsRun r log k
  pub names : NamesBelow log k
  pub mark : r.mark (stands r log k) ≡ true
  pub begun : rank (stands r log k) ≤ upto
  pub last : (r.width (stands r log k) ≡ 0) ⊎ (upto < rank (r.after (stands r log k) 0))
  pub fits : (j v : ℕ) → IsAtEnd r rank log k j v → v ≤ upto → shown v (stands r log j) ≡ 0
  pub few : (i j : ℕ) → i ≤ j → j ≤ k → NoEndWithin r log i j → departures_within log i j ≤ most

-- Marks are the ends of slots: a run goes on from one by one choice at most, and comes to a later time. Within a slot the time
-- stays.
pub record EndsSlots {S : Type 0} (r : Rules S) (rank : S → ℕ) : Type 0 where
  pub one_way : (log : List (ℕ × ℕ)) (n : ℕ) → IsRun r log n → r.mark (stands r log n) ≡ true →
      r.width (stands r log n) ≤ 1
  pub later : (log : List (ℕ × ℕ)) (n : ℕ) → IsRun r log (suc n) → r.mark (stands r log n) ≡ true →
      rank (stands r log n) < rank (stands r log (suc n))
  pub stays : (log : List (ℕ × ℕ)) (n : ℕ) → IsRun r log (suc n) → r.mark (stands r log n) ≡ false →
      rank (stands r log (suc n)) ≡ rank (stands r log n)
