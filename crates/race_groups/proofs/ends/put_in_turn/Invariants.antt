use Rattle.std.specs.Vec.Iter.{into_iter_items}
use Rattle.race_groups.proofs.SumLemmas.{SumsSoFar}
use Rattle.race_groups.proofs.ends.put_in_turn.Given as goal

abbrev pub invariant-loop-found : goal.invariant-loop-found
invariant-loop-found l = SumsSoFar l.machine l.fn.ends.items (into_iter_items l.found-iterator) l.fn.kept.items l.kept.items
    l.fn.cuts.items l.cuts.items
