use Rattle.std.proofs.Common.{◌≡◌, ◌++◌, drop, map}
use Rattle.vmodel.specs.Run.{opening_process}
use Rattle.plain_steps.proofs.open.opening_processes.Given as goal

abbrev pub invariant-loop-places : goal.invariant-loop-places
invariant-loop-places l =
    l.processes.items ++ map opening_process (drop l.places-index l.begins) ≡ map opening_process l.begins
