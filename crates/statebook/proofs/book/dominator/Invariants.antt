use Rattle.std.proofs.Common.{◌-◌}
use Rattle.statebook.proofs.BookLemmas.{Probes}
use Rattle.statebook.proofs.book.dominator.Given as goal

abbrev pub invariant-loop-found : goal.invariant-loop-found
invariant-loop-found g l = Probes g.S.PartialEq.eq l.entries.keys l.fn.entry l.entry l.found

abbrev pub decreases-loop-found : goal.decreases-loop-found
decreases-loop-found g l = l.top - l.entry.budget
