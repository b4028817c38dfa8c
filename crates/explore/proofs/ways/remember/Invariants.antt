use Rattle.std.proofs.Common.{◌≡◌, ◌+◌, length}
use Rattle.explore.specs.declared.ways.TheConstants.{ROOM}
use Rattle.explore.proofs.WaysLemmas.{Remembers}
use Rattle.explore.proofs.ways.remember.Given as goal

abbrev pub invariant-loop-state : goal.invariant-loop-state
invariant-loop-state g l = record {
  remembers : Remembers g.S.PartialEq.eq (length l.initial.search.book.entries + ROOM) l.initial.search.ways.entries l.initial.checkpoints.items l.checkpoints.items l.end l.station l.search.ways.entries;
  book : l.search.book ≡ l.initial.search.book;
}

abbrev pub decreases-loop-state : goal.decreases-loop-state
decreases-loop-state g l = length l.checkpoints.items
