-- *internal*: Where a run under a log stands, and what is kept of what was seen of it.
use Rattle.std.specs.Prelude.{◌≡◌, ℕ, ◌<◌, ◌≤◌, true, List}
use Rattle.vmodel.specs.State.{State}
use Rattle.vmodel.specs.Run.{Setting}
use Rattle.vmachine.specs.Inner.{IsAt}
use Rattle.footprints.specs.Visits.{Seen, IsBegin, seen_after, choice_of, is_in_slot}
use Rattle.footprints.specs.Keeping.{Keeps}

-- after n steps the run stands here, and this was seen of it
pub record IsSeenSo (setting : Setting) (log : List (ℕ × ℕ)) (steps from : ℕ) (rest : List (ℕ × ℕ)) (n : ℕ) (state : State) (seen : Seen) : Type 0 where
  pub here : IsAt setting log rest steps n state
  pub is : Keeps state.queue.time seen (seen_after setting log from n)
  pub few : seen.updates ≤ n
  pub within : (k : ℕ) → from ≤ k → k < n → is_in_slot (choice_of setting log k) ≡ true

-- the run stands before step n, and the visits of its slot up to there were seen
pub record StandsBefore (setting : Setting) (log : List (ℕ × ℕ)) (n : ℕ) (rest : List (ℕ × ℕ)) (state : State) (seen : Seen) : Type 0 where
  pub b : ℕ
  pub begin : IsBegin setting log n b
  pub so : IsSeenSo setting log n b rest n state seen
