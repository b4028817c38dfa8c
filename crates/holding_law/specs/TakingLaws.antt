-- *internal*: What departures that hold back find is what departures that only take find, of other logs; `holding_law` proves it.
use Rattle.std.specs.Prelude.{◌≡◌, ℕ, ◌<◌, ◌≤◌, List, None}
use Rattle.sched_core.specs.Logs.{IsLog}
use Rattle.sched_core.specs.Rules.{IsRun}
use Rattle.sched_core.specs.Replay.{EndsAfter}
use Rattle.sched_core.specs.declared.setting.Departures.TheVariants.{Taking}
use Rattle.vmodel.specs.State.{State}
use Rattle.vmodel.specs.Run.{Setting, rules_of, state_after, items_after}

-- the same setting, where departures only take
abbrev pub taking : Setting → Setting
taking setting = record setting { departures = Taking }

-- the same state, where departures only take
abbrev pub without_held : State → State
without_held s = record s { held_back = None }

-- no state on the way has more choices than a log can name
abbrev pub HasFewChoices : Setting → List (ℕ × ℕ) → ℕ → Type 0
HasFewChoices setting log n = (k : ℕ) → k < n → (rules_of setting).width (state_after setting log k) ≤ 4294967296

-- after so many steps both runs stand in the same state, and have given the same items
pub record AreAlike (setting : Setting) (log other : List (ℕ × ℕ)) (k : ℕ) : Type 0 where
  pub state : state_after (taking setting) other k ≡ without_held (state_after setting log k)
  pub items : items_after (taking setting) other k ≡ items_after setting log k

-- under the other log departures that only take go the same way, step by step
pub record IsTakingRun (setting : Setting) (log : List (ℕ × ℕ)) (n : ℕ) (other : List (ℕ × ℕ)) : Type 0 where
  pub run : IsRun (rules_of (taking setting)) other n
  pub alike : (k : ℕ) → k ≤ n → AreAlike setting log other k
  -- where the one ends so does the other
  pub ends : EndsAfter (rules_of setting) log n → EndsAfter (rules_of (taking setting)) other n
  -- and the other log is well formed
  pub log_is : n ≤ 1000000 → HasFewChoices (taking setting) other n → IsLog other

-- each run where departures may hold back is, under some other log, one where they only take
abbrev pub HoldingIsTaking : Type 0
HoldingIsTaking = (setting : Setting) (log : List (ℕ × ℕ)) (n : ℕ) → IsRun (rules_of setting) log n →
    (other : List (ℕ × ℕ)) × IsTakingRun setting log n other
