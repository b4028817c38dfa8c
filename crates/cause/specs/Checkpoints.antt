-- *internal*: States of runs, from which runs under logs are gone through.
use Rattle.std.specs.Prelude.{◌≡◌, ℕ, suc, ◌≤◌, false, List, [], ◌∷◌}
use Rattle.sched_core.specs.Rules.{IsRun}
use Rattle.vmodel.specs.Run.{Setting, rules_of, state_after}
use Rattle.footprints.specs.Visits.{seen_after, choice_of, is_in_slot}
use Rattle.footprints.specs.Keeping.{Keeps}
use Rattle.cause.specs.declared.checkpoint.Checkpoint.{Checkpoint}

-- a checkpoint of a run: the state in which the run under a log stands before the first step of a slot, and what is kept of what was seen of
-- it up to there
pub record IsCheckpointOf (setting : Setting) (log : List (ℕ × ℕ)) (checkpoint : Checkpoint) : Type 0 where
  pub run : IsRun (rules_of setting) log checkpoint.step
  pub state : checkpoint.state ≡ state_after setting log checkpoint.step
  pub seen : Keeps checkpoint.state.queue.time checkpoint.seen (seen_after setting log checkpoint.step checkpoint.step)
  pub few : checkpoint.seen.updates ≤ checkpoint.step
  pub begins : (k : ℕ) → suc k ≡ checkpoint.step → is_in_slot (choice_of setting log k) ≡ false

-- one of the default run, which is the run under the empty log
abbrev pub IsCheckpoint : Setting → Checkpoint → Type 0
IsCheckpoint setting checkpoint = IsCheckpointOf setting [] checkpoint

abbrev pub AreCheckpoints : Setting → List Checkpoint → Type 0
AreCheckpoints setting [] = Unit {0}
AreCheckpoints setting (checkpoint ∷ list) = IsCheckpoint setting checkpoint × AreCheckpoints setting list
