-- *product rule*: The time of a difference (crates/race_groups/README.md).
use Rattle.std.specs.Prelude.{◌≡◌, ℕ, List, Some, slice_get}
use Rattle.sched_core.specs.declared.end.End.{End}
use Rattle.explore.specs.declared.rank_marks.FoundMark.{FoundMark}
use Rattle.vmodel.specs.State.{State}
use Rattle.vmodel.specs.Run.{Setting}
use Rattle.vmachine.specs.declared.machine_state.MachineState.{MachineState}
use Rattle.vmachine.specs.Machines.{Stands}
use Rattle.vmachine.specs.Reads.{end_in}
use Rattle.race_groups.specs.declared.group.Difference.{Difference}
use Rattle.race_groups.specs.declared.group.Difference.TheVariants.{Values, Lines, Ends}

-- a run that ends in the first of these states ends at this time
abbrev pub IsTimeOfEnds : Setting → List (FoundMark MachineState) → ℕ → Type 0
IsTimeOfEnds setting ends time =
    (found : FoundMark MachineState) (t : State) (end : End) → slice_get ends 0 ≡ Some found →
    Stands setting found.state t → end_in t ≡ Some end →
    time ≡ end.time

-- that of its slot
abbrev pub IsTimeOf : Setting → Difference → ℕ → Type 0
IsTimeOf setting (Values race) time = time ≡ race.time
IsTimeOf setting (Lines race) time = time ≡ race.time
IsTimeOf setting (Ends ends) time = IsTimeOfEnds setting ends.items time
