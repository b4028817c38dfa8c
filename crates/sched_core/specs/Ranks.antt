-- *product rule*: Ranks of states, as the time of a simulation is one: equal states have equal ranks, and no step of a run lowers
-- them.
use Rattle.std.specs.Prelude.{◌≡◌, ℕ, suc, ◌≤◌, List, true}
use Rattle.sched_core.specs.Rules.{Rules, IsRun, stands}

pub record IsRanked {S : Type 0} (r : Rules S) (rank : S → ℕ) : Type 0 where
  pub rank_same : (s t : S) → r.same s t ≡ true → rank s ≡ rank t
  pub rises : (log : List (ℕ × ℕ)) (n : ℕ) → IsRun r log (suc n) → rank (stands r log n) ≤ rank (stands r log (suc n))
