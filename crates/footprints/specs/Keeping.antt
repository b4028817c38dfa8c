-- *internal*: What may be forgotten of what was seen of a run.
use Rattle.std.specs.Prelude.{◌≡◌, ℕ, ◌+◌, ◌≤◌, nat_lt, if◌then◌else◌, List, [], ◌∷◌}
use Rattle.footprints.specs.Visits.{Seen, due_at}
use Rattle.footprints.specs.declared.visit.Posted.{Posted}

-- of these updates those that are due at a time or later
abbrev pub due_from : ℕ → List Posted → List Posted
due_from time [] = []
due_from time (p ∷ posted) = if nat_lt (p.at + p.after) time then due_from time posted else p ∷ due_from time posted

-- what is kept of what was seen: nothing is missed from this time on
pub record Keeps (time : ℕ) (kept seen : Seen) : Type 0 where
  pub due : (t : ℕ) → time ≤ t → due_at t kept.posted ≡ due_at t seen.posted
  pub updates : kept.updates ≡ seen.updates
  pub visits : kept.visits ≡ seen.visits
  pub waits : kept.waits ≡ seen.waits
