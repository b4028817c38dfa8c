-- *product rule*: What the runs of a setting say, step by step. Only `Finishes` has to be believed.
use Rattle.std.specs.Prelude.{◌≡◌, ℕ, ◌≤◌, List, length, refl}
use Rattle.sched_core.specs.Rules.{IsRun}
use Rattle.sched_core.specs.Replay.{EndsAfter}
use Rattle.sched_core.specs.declared.end.End.{End}
use Rattle.vmodel.specs.State.{State}
use Rattle.vmodel.specs.Choices.{choices}
use Rattle.vmodel.specs.Step.{next}
use Rattle.vmodel.specs.Run.{Setting, rules_of, opening_of, state_after, end_of}

-- the run under the log ends after n steps, no more than allowed, with this end
pub record Finishes (setting : Setting) (log : List (ℕ × ℕ)) (steps n : ℕ) (end : End) : Type 0 where
  pub within : n ≤ steps
  pub ends : EndsAfter (rules_of setting) log n
  pub end_is : end ≡ end_of (state_after setting log n)

-- the run under the log takes n steps, no more than allowed
pub record IsOnItsWay (setting : Setting) (log : List (ℕ × ℕ)) (steps n : ℕ) : Type 0 where
  pub within : n ≤ steps
  pub run : IsRun (rules_of setting) log n

pub opening_is : (setting : Setting) → (rules_of setting).first ≡ opening_of setting
unfolding rules_of
opening_is setting = refl

pub width_is : (setting : Setting) (s : State) → (rules_of setting).width s ≡ length (choices s)
unfolding rules_of
width_is setting s = refl

pub after_is : (setting : Setting) (s : State) (i : ℕ) → (rules_of setting).after s i ≡ (next setting.design s i).state
unfolding rules_of
after_is setting s i = refl
