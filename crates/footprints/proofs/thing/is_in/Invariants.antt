use Rattle.std.proofs.Common.{◌≡◌, drop}
use Rattle.footprints.specs.Footprints.{is_in}
use Rattle.footprints.proofs.thing.is_in.Given as goal

abbrev pub invariant-loop-other : goal.invariant-loop-other
invariant-loop-other l = is_in l.thing (drop l.other-index l.list) ≡ is_in l.thing l.list
