-- *product rule*: How a run under a log ends, and why there may be none.
use Rattle.std.specs.Prelude.{◌≡◌, ℕ, ◌<◌, ◌≤◌, ◌⊎◌, List, Result, MatchResult, true}
use Rattle.basis.specs.declared.memory.OrMemory.{OrMemory}
use Rattle.basis.specs.Reasons.{Because}
use Rattle.sched_core.specs.Rules.{Rules, stands, choice_at, IsRun, NamesBelow}
use Rattle.sched_core.specs.declared.run.Reached.{Reached}
use Rattle.sched_core.specs.declared.run.ReplayFault.{ReplayFault}
use Rattle.sched_core.specs.declared.run.ReplayFault.TheVariants.{NoSuchChoice, TooManySteps}

-- The run under the log ends after n steps, and they reach all that the log names.
pub record EndsAfter {S : Type 0} (r : Rules S) (log : List (ℕ × ℕ)) (n : ℕ) : Type 0 where
  pub run : IsRun r log n
  pub end : r.width (stands r log n) ≡ 0
  pub names : NamesBelow log n

-- After n steps the run has ended before a named step.
pub record EndsTooEarly {S : Type 0} (r : Rules S) (log : List (ℕ × ℕ)) (n : ℕ) : Type 0 where
  pub run : IsRun r log n
  pub end : r.width (stands r log n) ≡ 0
  pub named : ¬ NamesBelow log n

-- After n steps the run goes on, but not by the choice that the log names.
pub record HasNoChoice {S : Type 0} (r : Rules S) (log : List (ℕ × ℕ)) (n : ℕ) : Type 0 where
  pub run : IsRun r log n
  pub goes_on : 0 < r.width (stands r log n)
  pub missing : r.width (stands r log n) ≤ choice_at log n

-- Within so many steps a named step isn't reached, or hasn't the choice.
abbrev pub IsMissing : {S : Type 0} → Rules S → List (ℕ × ℕ) → ℕ → Type 0
IsMissing r log steps = (n : ℕ) × (n ≤ steps) × (EndsTooEarly r log n ⊎ ((n < steps) × HasNoChoice r log n))

-- The run takes so many steps and goes on.
pub record TakesMore {S : Type 0} (r : Rules S) (log : List (ℕ × ℕ)) (steps : ℕ) : Type 0 where
  pub run : IsRun r log steps
  pub goes_on : 0 < r.width (stands r log steps)

-- The state is where the run under the log stands after the steps.
abbrev pub StandsThere : {S : Type 0} → Rules S → List (ℕ × ℕ) → Reached S → Type 0
StandsThere r log reached = r.same reached.state (stands r log reached.steps) ≡ true

-- Why the log has no replay of at most so many steps.
abbrev pub IsReplayReason : {S : Type 0} → Rules S → List (ℕ × ℕ) → ℕ → ReplayFault → Type 0
IsReplayReason r log steps NoSuchChoice = IsMissing r log steps
IsReplayReason r log steps TooManySteps = TakesMore r log steps

-- Where the run ends within so many steps, the answer is their count, or that memory was refused.
abbrev pub TellsEnd : {S : Type 0} → Rules S → List (ℕ × ℕ) → ℕ → Result (Reached S) (OrMemory ReplayFault) → Type 0
TellsEnd r log steps answer = (n : ℕ) → n ≤ steps → EndsAfter r log n → MatchResult answer (λ reached. reached.steps ≡ n) (Because (λ _. ⊥))

-- Where the fault has its reason, the answer is that fault, or that memory was refused.
abbrev pub TellsFault : {S : Type 0} → Rules S → List (ℕ × ℕ) → ℕ → ReplayFault → Result (Reached S) (OrMemory ReplayFault) → Type 0
TellsFault r log steps fault answer = IsReplayReason r log steps fault → MatchResult answer (λ _. ⊥) (Because (λ told. told ≡ fault))

-- What is left of a log after step n, and the choice of that step.
pub record IsNextChoice (members : List (ℕ × ℕ)) (n choice : ℕ) (rest : List (ℕ × ℕ)) : Type 0 where
  pub taken : choice ≡ choice_at members n
  pub later : (k : ℕ) → n < k → choice_at members k ≡ choice_at rest k
  pub names : (k : ℕ) → n < k → NamesBelow rest k → NamesBelow members k
  pub names_back : (k : ℕ) → NamesBelow members k → NamesBelow rest k
