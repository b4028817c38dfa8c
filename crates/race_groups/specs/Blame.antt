-- *product rule*: Which causes are one race (docs/RACES.md): those that blame the same two statements, whichever came first.
use Rattle.std.specs.Prelude.{◌≡◌, ℕ, ◌⊎◌, List, Option, Some, None}
use Rattle.vmodel.specs.Run.{Setting}
use Rattle.cause.specs.Causes.{IsTold}
use Rattle.cause.specs.declared.cause.Cause.{Cause}

-- the two statements that are to blame; none where there is no cause
abbrev pub blamed_by : Option Cause → Option (ℕ × ℕ)
blamed_by None = None
blamed_by (Some cause) = Some (cause.first.statement, cause.second.statement)

-- the same two in the other order
abbrev pub turned : Option (ℕ × ℕ) → Option (ℕ × ℕ)
turned None = None
turned (Some pair) = Some (pair.1, pair.0)

-- the same two statements, or none twice
abbrev pub AreSameTwo : Option (ℕ × ℕ) → Option (ℕ × ℕ) → Type 0
AreSameTwo one other = (one ≡ other) ⊎ (one ≡ turned other)

-- both blame the same two statements; so do two logs without a cause
abbrev pub BlameSame : Option Cause → Option Cause → Type 0
BlameSame one other = AreSameTwo (blamed_by one) (blamed_by other)

-- what is told of the log, by so many steps of a slot, blames the same two statements as this cause
pub record HasSameCause (setting : Setting) (steps : ℕ) (cause : Option Cause) (log : List (ℕ × ℕ)) : Type 0 where
  pub told : Option Cause
  pub is : IsTold setting log steps told
  pub same : BlameSame cause told
