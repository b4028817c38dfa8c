use Rattle.std.proofs.Common.{◌≡◌, drop}
use Rattle.footprints.specs.Footprints.{meet}
use Rattle.footprints.proofs.thing.meet.Given as goal

abbrev pub invariant-loop-thing : goal.invariant-loop-thing
invariant-loop-thing l = meet (drop l.thing-index l.one) l.other ≡ meet l.one l.other
