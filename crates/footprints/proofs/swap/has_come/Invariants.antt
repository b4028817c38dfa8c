use Rattle.std.proofs.Common.{◌≡◌, drop}
use Rattle.footprints.specs.Swaps.{has_come}
use Rattle.footprints.proofs.swap.has_come.Given as goal

abbrev pub invariant-loop-other : goal.invariant-loop-other
invariant-loop-other l = has_come l.visit (drop l.other-index l.visits) ≡ has_come l.visit l.visits
