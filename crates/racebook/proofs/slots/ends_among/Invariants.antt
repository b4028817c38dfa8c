use Rattle.std.specs.Vec.Iter.{into_iter_items}
use Rattle.racebook.proofs.EndLemmas.{EndsSoFar}
use Rattle.racebook.proofs.slots.ends_among.Given as goal

abbrev pub invariant-loop-found : goal.invariant-loop-found
invariant-loop-found l = EndsSoFar l.machine l.fn.marks.items (into_iter_items l.found-iterator) l.ends.items
