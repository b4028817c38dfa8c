use Rattle.indexmap.specs.IndexMap.{IsUnique}
use Rattle.explore.proofs.MarkLemmas.{MarksUpTo}
use Rattle.explore.proofs.marks.list_marks.Given as goal

abbrev pub invariant-loop-place : goal.invariant-loop-place
invariant-loop-place g l = record {
  marks : MarksUpTo (g.P.Space.rules l.space) l.limits l.book.entries l.place l.marks.entries;
  distinct : IsUnique g.P.State.PartialEq.eq l.marks;
}
