use Rattle.std.proofs.Common.{◌≡◌, drop}
use Rattle.footprints.specs.Latest.{greatest}
use Rattle.footprints.proofs.latest.Table.greatest.Given as goal

abbrev pub invariant-loop-thing : goal.invariant-loop-thing
invariant-loop-thing l = greatest l.self (drop l.thing-index l.things) l.most ≡ greatest l.self l.things l.least
