use Rattle.std.proofs.Common.{◌≡◌, drop}
use Rattle.vcompile.specs.Whole.{begin_well}
use Rattle.vcompile.proofs.whole.begin_well.Given as goal

abbrev pub invariant-loop-places : goal.invariant-loop-places
invariant-loop-places l =
    (l.number ≡ l.places-index)
    × (begin_well l.links l.number (drop l.places-index l.processes) ≡ begin_well l.links 0 l.processes)
