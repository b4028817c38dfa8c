use Rattle.indexmap.specs.IndexMap.{IsUnique}
use Rattle.explore.specs.Found.{AreFound}
use Rattle.explore.proofs.listing.list_met.Given as goal

abbrev pub invariant-loop-place : goal.invariant-loop-place
invariant-loop-place g l = record {
  found : AreFound (g.P.Space.rules l.space) l.limits l.marks.entries;
  distinct : IsUnique g.P.State.PartialEq.eq l.marks;
}
