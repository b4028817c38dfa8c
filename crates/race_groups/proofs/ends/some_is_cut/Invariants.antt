use Rattle.std.proofs.Common.{◌≡◌, ◌<◌, ℕ, slice_get, Some}
use Rattle.explore.specs.declared.rank_marks.FoundMark.{FoundMark}
use Rattle.vmachine.specs.declared.machine_state.MachineState.{MachineState}
use Rattle.race_groups.specs.Inner.{IsUncut}
use Rattle.race_groups.proofs.ends.some_is_cut.Given as goal

abbrev pub invariant-loop-found : goal.invariant-loop-found
invariant-loop-found l = (k : ℕ) (found : FoundMark MachineState) → k < l.found-index → slice_get l.ends k ≡ Some found →
    IsUncut l.machine found.state
