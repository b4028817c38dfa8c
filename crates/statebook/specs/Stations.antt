-- *product rule*: Stations: where an explorer stops, the states that it stores. Between them all steps are forced, and no state is stored
-- (path compression). Only `is_station` has to be believed.
use Rattle.std.specs.Prelude.{◌≡◌, ℕ, ◌<◌, ◌==◌, zero, suc, Bool, true, false, ◌||◌, not}
use Rattle.sched_core.specs.Rules.{Rules}

-- A station is a state equal to the opening one, one of width other than 1, or a mark.
abbrev pub is_station : {S : Type 0} → Rules S → S → Bool
is_station r s = r.same s r.first || (not (r.width s == 1) || r.mark s)

-- the state after so many steps of choice 0
abbrev pub forced_state : {S : Type 0} → Rules S → S → ℕ → S
forced_state r s zero = s
forced_state r s (suc n) = r.after (forced_state r s n) 0

-- The next station from s on, s included, is n forced steps away.
pub record IsNextStation {S : Type 0} (r : Rules S) (s : S) (n : ℕ) : Type 0 where
  pub passes : (j : ℕ) → j < n → is_station r (forced_state r s j) ≡ false
  pub station : is_station r (forced_state r s n) ≡ true
