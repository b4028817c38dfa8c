use Rattle.shardbook.specs.StoredEntries.{entries_of}
use Rattle.shardbook.proofs.FindLemmas.{Searching, places_left}
use Rattle.shardbook.proofs.find.find.Given as goal

abbrev pub invariant-loop-place : goal.invariant-loop-place
invariant-loop-place g l = Searching g.S.PartialEq.eq (entries_of l.tokens) l.chains.codes l.code l.entry l.place

abbrev pub decreases-loop-place : goal.decreases-loop-place
decreases-loop-place g l = places_left l.place
