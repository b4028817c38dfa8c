-- *internal*: Words for the contracts of parts within.
use Rattle.std.specs.Prelude.{◌≡◌, ℕ, ◌+◌, ◌<◌, ◌≤◌, Bool, true, false, List, [], ◌∷◌, length, Option, Some, None, Result, Ok, Err}
use Rattle.basis.specs.declared.memory.OrMemory.{OrMemory}
use Rattle.basis.specs.declared.memory.OrMemory.TheVariants.{Fault, Memory}
use Rattle.sched_core.specs.Rules.{IsRun}
use Rattle.sched_core.specs.Logs.{IsLogFrom}
use Rattle.sched_core.specs.Replay.{IsNextChoice, IsReplayReason}
use Rattle.sched_core.specs.declared.run.ReplayFault.{ReplayFault}
use Rattle.sched_core.proofs.RunLemmas.{IsLeft}
use Rattle.vmodel.specs.declared.history.Item.{Item}
use Rattle.vmodel.specs.State.{State}
use Rattle.vmodel.specs.Choices.{choices}
use Rattle.vmodel.specs.Run.{Setting, rules_of, state_after, end_of}
use Rattle.vmodel.specs.RunProgress.{Finishes}
use Rattle.vmachine.specs.declared.run.Chosen.{Chosen}
use Rattle.vmachine.specs.declared.run.RunFault.{RunFault}
use Rattle.vmachine.specs.declared.run.RunFault.TheVariants.{Replay, Sink}

-- the fault came from the sink, and the fact holds of it
abbrev pub IsOfSink : {F : Type 0} → (F → Type 0) → OrMemory (RunFault F) → Type 0
IsOfSink P (Fault (Replay fault)) = ⊥
IsOfSink P (Fault (Sink fault)) = P fault
IsOfSink P (Memory m) = ⊥

-- at a mark the sink takes what is pending, if anything is; else all stays
abbrev pub HandsOn : {T : Type 0} → (T → List Item → T → Type 0) → Bool → T → List Item → T → List Item → Type 0
HandsOn takes false old waiting new left = (new ≡ old) × (left ≡ waiting)
HandsOn takes true old [] new left = (new ≡ old) × (left ≡ [])
HandsOn takes true old (item ∷ more) new left = takes old (item ∷ more) new × (left ≡ [])

-- after n steps the run stands at the state, and this is left of the log
pub record IsAt (setting : Setting) (log rest : List (ℕ × ℕ)) (steps n : ℕ) (state : State) : Type 0 where
  pub within : n ≤ steps
  pub left : IsLeft log rest n
  pub run : IsRun (rules_of setting) log n
  pub at : state ≡ state_after setting log n

-- what comes next
abbrev pub IsChosen : Setting → List (ℕ × ℕ) → ℕ → ℕ → State → List (ℕ × ℕ) → Result (Option Chosen) ReplayFault → Type 0
IsChosen setting log steps n state rest (Ok None) = Finishes setting log steps n (end_of state)
IsChosen setting log steps n state rest (Ok (Some chosen)) =
    (n < steps) × (chosen.choice < length (choices state)) × IsNextChoice rest n chosen.choice chosen.later.now × IsLogFrom (n + 1) chosen.later.now
IsChosen setting log steps n state rest (Err fault) = IsReplayReason (rules_of setting) log steps fault
