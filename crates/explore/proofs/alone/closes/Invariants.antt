use Rattle.explore.proofs.CloseLemmas.{ListsAll}
use Rattle.explore.proofs.alone.closes.Given as goal

abbrev pub invariant-loop-place : goal.invariant-loop-place
invariant-loop-place g l = ListsAll l.all.items l.place
