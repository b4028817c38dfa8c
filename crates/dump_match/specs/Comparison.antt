-- *product rule*: What of a run's states is compared with a dump (IEEE 1364-2005, 18.2; docs/FROM-ICARUS.md).
use Rattle.std.specs.Prelude.{ℕ, ◌+◌, nat_lt, false, if◌then◌else◌, List, [], ◌∷◌, ◌++◌, Option, Some, None, slice_get, get_or}
use Rattle.vbits.specs.Vectors.{Vector, vector_same, with_sign}
use Rattle.vmodel.specs.State.{State}
use Rattle.vmodel.specs.Run.{Setting}
use Rattle.vmachine.specs.declared.machine_state.MachineState.{MachineState}
use Rattle.vmachine.specs.Machines.{state_in}
use Rattle.vmachine.specs.Reads.{slot_in}
use Rattle.dump_match.specs.declared.comparison.Pair.{Pair}
use Rattle.dump_match.specs.declared.differing.Differing.{Differing}

-- one that the dump knows, and that has another value in the run; signs aren't compared
abbrev pub differing : Option Vector → Option Vector → ℕ
differing None value = 0
differing (Some told) None = 0
differing (Some told) (Some value) = if vector_same (with_sign value false) told then 0 else 1

-- how many of the pairs differ: what the dump tells in a column, and what the variable is worth
abbrev pub differing_in : List (Option Vector) → List Vector → List Pair → ℕ
differing_in told values [] = 0
differing_in told values (pair ∷ pairs) = differing (get_or told pair.column None) (slice_get values pair.variable) + differing_in told values pairs

-- which they are: of a pair what the dump tells and the variable's value, where they differ
abbrev pub told_apart : ℕ → Option Vector → Option Vector → List Differing
told_apart variable None value = []
told_apart variable (Some told) None = []
told_apart variable (Some told) (Some value) =
    if vector_same (with_sign value false) told then [] else record { variable = variable; told = told; value = value } ∷ []

abbrev pub all_told_apart : List (Option Vector) → List Vector → List Pair → List Differing
all_told_apart told values [] = []
all_told_apart told values (pair ∷ pairs) =
    told_apart pair.variable (get_or told pair.column None) (slice_get values pair.variable) ++ all_told_apart told values pairs

-- At a slot's end its values are compared. A slot that `$finish` or `$stop` cuts isn't (17.4), and nothing later may be shown.
abbrev pub differing_by : Option ℕ → ℕ → ℕ → List (Option Vector) → List Vector → List Pair → ℕ
differing_by (Some slot) time now told values pairs = differing_in told values pairs
differing_by None time now told values pairs = if nat_lt now time then 1 else 0

-- how many differ in the state of a run, of what the dump shows from a time on
abbrev pub differing_at : ℕ → List (Option Vector) → List Pair → State → ℕ
differing_at time told pairs s = differing_by (slot_in s) time s.queue.time told s.values pairs

-- and in that of a machine
abbrev pub differ_from : Setting → ℕ → List (Option Vector) → List Pair → MachineState → ℕ
differ_from setting time told pairs s = differing_at time told pairs (state_in setting s)
