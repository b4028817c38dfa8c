use Rattle.std.proofs.Common.{◌≡◌, ◌++◌, drop}
use Rattle.footprints.specs.Footprints.{common}
use Rattle.footprints.proofs.thing.put_common.Given as goal

abbrev pub invariant-loop-thing : goal.invariant-loop-thing
invariant-loop-thing l = l.common.items ++ common (drop l.thing-index l.list) l.other ≡ l.initial.common.items ++ common l.list l.other
