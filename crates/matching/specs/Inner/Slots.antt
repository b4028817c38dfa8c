-- *internal*: One slot of a space, and the run that goes on into it.
use Rattle.std.specs.Prelude.{◌≡◌, ℕ, ◌+◌, ◌<◌, true, List, [], ◌∷◌}
use Rattle.sched_core.specs.Rules.{Rules, stands, IsRun, NamesBelow}
use Rattle.matching.specs.Slots.{one_slot}

-- The members of a log, so many steps later.
abbrev pub log_later : ℕ → List (ℕ × ℕ) → List (ℕ × ℕ)
log_later n [] = []
log_later n (m ∷ log) = (n + m.0, m.1) ∷ log_later n log

-- A run from the start comes to the end of the slot at this state: under this log, in so many steps.
pub record EndsSlot {S : Type 0} (r : Rules S) (start : S) (log : List (ℕ × ℕ)) (n : ℕ) (s : S) : Type 0 where
  pub run : IsRun (one_slot r start) log n
  pub names : NamesBelow log n
  pub mark : r.mark (stands (one_slot r start) log n) ≡ true
  pub at : r.same s (stands (one_slot r start) log n) ≡ true

-- A run that takes so many steps and then goes on under the second log can't be named: it takes too many steps.
abbrev pub IsBeyond : List (ℕ × ℕ) → ℕ → List (ℕ × ℕ) → Type 0
IsBeyond log steps slot = (c : ℕ) → NamesBelow log steps → NamesBelow slot c → 1000000 < steps + c
