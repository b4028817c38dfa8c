use Rattle.indexmap.specs.IndexMap.{IsUnique}
use Rattle.explore.proofs.TakenMarks.{MarksBefore}
use Rattle.explore.proofs.marks.into_marks.Given as goal

abbrev pub invariant-loop-entry : goal.invariant-loop-entry
invariant-loop-entry g l = record {
  read : MarksBefore (g.P.Space.rules l.space) l.limits l.fn.book.entries l.entry-iterator l.marks.entries;
  distinct : IsUnique g.P.State.PartialEq.eq l.marks;
}
