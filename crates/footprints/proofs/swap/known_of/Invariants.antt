use Rattle.footprints.specs.Latest.{AreClear, Covers}
use Rattle.footprints.proofs.swap.known_of.Given as goal

abbrev pub invariant-loop-visit : goal.invariant-loop-visit
invariant-loop-visit l = record {
  clear : AreClear l.run l.parent l.clear.items;
  latest : Covers l.run l.parent l.visit-index l.latest;
}
