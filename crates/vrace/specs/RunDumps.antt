-- *product rule*: What is shown of one run, on its way to a writer. Only `failures_after` has to be believed.
use Rattle.std.specs.Prelude.{◌≡◌, ◌⊎◌, ℕ, List, Option}
use Rattle.sched_core.specs.Replay.{IsMissing, TakesMore}
use Rattle.sched_core.specs.declared.run.ReplayFault.{ReplayFault}
use Rattle.sched_core.specs.declared.run.ReplayFault.TheVariants as replay
use Rattle.vmodel.specs.Run.{Setting, rules_of}
use Rattle.byte_sinks.specs.Metered.{Stops, one_more}
use Rattle.byte_sinks.specs.declared.metered.Metered.{Metered}
use Rattle.byte_sinks.specs.declared.fault.WriteFault.{WriteFault}
use Rattle.byte_sinks.specs.declared.fault.WriteFault.TheVariants as write
use Rattle.basis.specs.declared.memory.OrMemory.{OrMemory}
use Rattle.basis.specs.declared.memory.OrMemory.TheVariants as or
use Rattle.vreport.specs.Dumps.{IsRunDump}
use Rattle.vrace.specs.RunLines.{IsRunLines}
use Rattle.vrace.specs.declared.replay.Show.{Show}
use Rattle.vrace.specs.declared.replay.Show.TheVariants.{Dump, Lines}
use Rattle.vrace.specs.declared.fault.Fault.{Fault}
use Rattle.vrace.specs.declared.fault.Fault.TheVariants.{NoSuchChoice, TooManySteps, Memory, Write}

-- why a run isn't replayed to its end
abbrev pub IsRunFault : Setting → List (ℕ × ℕ) → ℕ → Fault → Type 0
IsRunFault setting log limit NoSuchChoice = IsMissing (rules_of setting) log limit
IsRunFault setting log limit TooManySteps = TakesMore (rules_of setting) log limit
IsRunFault setting log limit (Memory m) = Unit {0}
IsRunFault setting log limit other = ⊥

abbrev pub fault_of : OrMemory WriteFault → Fault
fault_of (or.Fault write.Write) = Write
fault_of (or.Memory m) = Memory m

-- the fault came as a text went out of which this holds
pub record StopsText {W : Type 0} (contents : W → Option (List ℕ)) (Holds : List ℕ → Type 0) (old new : Metered W) (fault : Fault) : Type 0 where
  pub cause : OrMemory WriteFault
  pub is : fault ≡ fault_of cause
  pub text : List ℕ
  pub holds : Holds text
  pub stops : Stops contents old new text cause

-- the count of a writer's failures after a fault
abbrev pub failures_after : Fault → ℕ → ℕ
failures_after Write n = one_more n
failures_after other n = n

-- no failure of a writer is told
abbrev pub IsUnwritten : Fault → Type 0
IsUnwritten fault = (n : ℕ) → n ≡ failures_after fault n

-- the number of a fault of the run
abbrev pub replay_fault_of : ReplayFault → Fault
replay_fault_of replay.NoSuchChoice = NoSuchChoice
replay_fault_of replay.TooManySteps = TooManySteps

-- the same where memory may be refused, too
abbrev pub seeing_fault_of : OrMemory ReplayFault → Fault
seeing_fault_of (or.Fault fault) = replay_fault_of fault
seeing_fault_of (or.Memory m) = Memory m

-- the run wasn't begun to be written, or the fault came as it went out
abbrev pub Ends : {W : Type 0} → (W → Option (List ℕ)) → (List ℕ → Type 0) → Setting → List (ℕ × ℕ) → ℕ → Metered W → Metered W → Fault → Type 0
Ends contents Holds setting log limit old new fault =
    (IsRunFault setting log limit fault × (new ≡ old)) ⊎ StopsText contents Holds old new fault

-- the run under the log ends within so many steps, and this is shown of it
abbrev pub IsRunShown : Show → Setting → List (ℕ × ℕ) → ℕ → List ℕ → Type 0
IsRunShown Dump setting log limit text = IsRunDump setting log limit text
IsRunShown Lines setting log limit text = IsRunLines setting log limit text
