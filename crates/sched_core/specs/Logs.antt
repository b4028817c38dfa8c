-- *product rule*: Which lists of members (step, index) are logs (docs/SCHEDULING.md, "Logs").
use Rattle.std.specs.Prelude.{ℕ, ◌+◌, ◌≤◌, List, [], ◌∷◌}

-- Members (step, index): steps from low to 999,999, strictly rising; indices from 1 to 4,294,967,295.
abbrev pub IsLogFrom : ℕ → List (ℕ × ℕ) → Type 0
IsLogFrom low [] = Unit {0}
IsLogFrom low (m ∷ log) = (low ≤ m.0) × (m.0 ≤ 999999) × (1 ≤ m.1) × (m.1 ≤ 4294967295) × IsLogFrom (m.0 + 1) log

abbrev pub IsLog : List (ℕ × ℕ) → Type 0
IsLog log = IsLogFrom 0 log
