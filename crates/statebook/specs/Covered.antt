-- *internal*: What an exhausted list covers. This speaks of all runs, and knows no book and no worker.
use Rattle.std.specs.Prelude.{◌≡◌, ℕ, ◌≤◌, true, List, length}
use Rattle.sched_core.specs.Rules.{Rules, stands, IsRun}

-- However a run with no more than k departures comes to a mark, and however late, the mark is listed,
-- with a log that departs no more often than the run.
abbrev pub IsCovered : {S : Type 0} → Rules S → ℕ → (S → ℕ → Type 0) → Type 0
IsCovered {S} r k Listed = (log : List (ℕ × ℕ)) (n : ℕ) → length log ≤ k → IsRun r log n → r.mark (stands r log n) ≡ true → Listed (stands r log n) (length log)

-- So it is of the marks of rank top and below.
abbrev pub IsCoveredTo : {S : Type 0} → Rules S → ℕ → (S → ℕ) → ℕ → (S → ℕ → Type 0) → Type 0
IsCoveredTo r k rank top Listed = IsCovered r k (λ s d. rank s ≤ top → Listed s d)
