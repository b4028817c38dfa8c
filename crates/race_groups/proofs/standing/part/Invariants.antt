use Rattle.std.specs.Vec.Iter.{into_iter_items}
use Rattle.racebook.proofs.EndLemmas.{EndsSoFar}
use Rattle.race_groups.proofs.StandingLemmas.{GoingSoFar}
use Rattle.race_groups.proofs.standing.part.Given as goal

abbrev pub invariant-loop-found : goal.invariant-loop-found
invariant-loop-found l = record {
  ends : EndsSoFar l.machine l.fn.marks.items (into_iter_items l.found-iterator) l.parted.ends.items;
  going_on : GoingSoFar l.machine l.fn.marks.items (into_iter_items l.found-iterator) l.parted.going_on.items;
}
