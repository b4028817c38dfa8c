-- *internal*: Words for looking among candidates, by the code's own test of equality.
use Rattle.std.specs.Prelude.{◌≡◌, ℕ, ◌<◌, ◌≤◌, ◌⊎◌, Bool, true, List, length, Option, Some, None}
use Rattle.matching.specs.Inner.Candidates.{IsIn}
use Rattle.matching.specs.declared.answer.Explanation.{Explanation}
use Rattle.matching.specs.declared.candidates.Onward.{Onward}
use Rattle.matching.specs.declared.candidates.Way.{Way}

-- A state equal to this one is in the list, under a log of at most d departures.
pub record IsNoLonger {S : Type 0} (same : S → S → Bool) (entries : List (S × Way S)) (s : S) (d : ℕ) : Type 0 where
  pub entry : S × Way S
  pub at : IsIn entries entry
  pub equal : same s entry.0 ≡ true
  pub departures : length entry.1.log ≤ d

-- Where a state equal to this one is in the list, it is under a log of more than d departures.
abbrev pub AreLonger : {S : Type 0} → (S → S → Bool) → List (S × Way S) → S → ℕ → Type 0
AreLonger {S} same entries s d = (e : S × Way S) → IsIn entries e → same s e.0 ≡ true → d < length e.1.log

-- it is the lesser of a time and the rank of the next slot
pub record IsEarlier {S : Type 0} (time : ℕ) (way : Way S) (earlier : ℕ) : Type 0 where
  pub within : earlier ≤ time
  pub least : (next : Onward S) → way.next ≡ Some next → earlier ≤ next.rank
  pub some : (earlier ≡ time) ⊎ ((next : Onward S) × (way.next ≡ Some next) × (next.rank ≡ earlier))

-- It is the second run, or the first, which has no more departures.
abbrev pub IsShorter : {S : Type 0} → Option (Explanation S) → S → Way S → Explanation S → Type 0
IsShorter None s way best = (best.state ≡ s) × (best.log ≡ way.log) × (best.steps ≡ way.steps)
IsShorter (Some old) s way best = ((best ≡ old) × (length old.log ≤ length way.log)) ⊎
    ((best.state ≡ s) × (best.log ≡ way.log) × (best.steps ≡ way.steps) × (length way.log ≤ length old.log))
