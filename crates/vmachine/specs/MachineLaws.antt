-- *internal*: What holds of the states of every machine; `machine_law` proves each.
use Rattle.std.specs.Prelude.{◌≡◌, ℕ, List, true}
use Rattle.sched_core.specs.Rules.{IsRun, stands}
use Rattle.vmodel.specs.State.{State, without_processes}
use Rattle.vmodel.specs.Run.{Setting, rules_of, opening_of, state_after}
use Rattle.vmachine.specs.declared.machine_state.MachineState.{MachineState}
use Rattle.vmachine.specs.Machines.{Stands, machine_rules, rank_of, state_in}

-- the first state stands for the opening state
abbrev pub StandsAtFirst : Type 0
StandsAtFirst = (setting : Setting) → Stands setting (machine_rules setting).first (opening_of setting)

-- states that stand for states of a run have as many choices
abbrev pub HasSameWidth : Type 0
HasSameWidth = (setting : Setting) (s : MachineState) (t : State) →
    Stands setting s t → (machine_rules setting).width s ≡ (rules_of setting).width t

-- and are marks together
abbrev pub HasSameMarks : Type 0
HasSameMarks = (setting : Setting) (s : MachineState) (t : State) →
    Stands setting s t → (machine_rules setting).mark s ≡ (rules_of setting).mark t

-- after the same choice they stand for the next states
abbrev pub StandsAfter : Type 0
StandsAfter = (setting : Setting) (s : MachineState) (t : State) (i : ℕ) →
    Stands setting s t → Stands setting ((machine_rules setting).after s i) ((rules_of setting).after t i)

-- such a state's rank is the time of the run (11.3)
abbrev pub HasTimeAsRank : Type 0
HasTimeAsRank = (setting : Setting) (s : MachineState) (t : State) → Stands setting s t → rank_of setting s ≡ t.queue.time

-- what is equal to such a state stands for the same
abbrev pub StandsForSame : Type 0
StandsForSame = (setting : Setting) (s r : MachineState) (t : State) →
    Stands setting s t → (machine_rules setting).same r s ≡ true → Stands setting r t

-- what stands for one state is equal
abbrev pub IsSameForOne : Type 0
IsSameForOne = (setting : Setting) (s r : MachineState) (t : State) →
    Stands setting s t → Stands setting r t → (machine_rules setting).same s r ≡ true

-- it stands for one state only
abbrev pub StandsForOne : Type 0
StandsForOne = (setting : Setting) (s : MachineState) (t u : State) → Stands setting s t → Stands setting s u → t ≡ u

-- what such a state tells is all of the state that it stands for, but for its processes
abbrev pub StandsForOwn : Type 0
StandsForOwn = (setting : Setting) (s : MachineState) (t : State) →
    Stands setting s t → without_processes (state_in setting s) ≡ without_processes t

-- and each state's rank is the time that it tells
abbrev pub HasOwnTimeAsRank : Type 0
HasOwnTimeAsRank = (setting : Setting) (s : MachineState) → rank_of setting s ≡ (state_in setting s).queue.time

-- so the runs of a machine are those of its setting
abbrev pub RunsAsSetting : Type 0
RunsAsSetting = (setting : Setting) (log : List (ℕ × ℕ)) (n : ℕ) → IsRun (machine_rules setting) log n → IsRun (rules_of setting) log n

abbrev pub SettingRunsSo : Type 0
SettingRunsSo = (setting : Setting) (log : List (ℕ × ℕ)) (n : ℕ) → IsRun (rules_of setting) log n → IsRun (machine_rules setting) log n

abbrev pub StandsThroughout : Type 0
StandsThroughout = (setting : Setting) (log : List (ℕ × ℕ)) (n : ℕ) →
    Stands setting (stands (machine_rules setting) log n) (state_after setting log n)
