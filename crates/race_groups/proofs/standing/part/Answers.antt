use Rattle.std.specs.Vec.Iter.{into_iter_items}
use Rattle.racebook.proofs.EndLemmas.{ends_on}
use Rattle.race_groups.proofs.StandingLemmas.{going_on_by}
use Rattle.race_groups.proofs.standing.part.Goals as goal

pub loop-found-preserved : goal.loop-found-preserved
loop-found-preserved c = record {
  ends = ends_on c.args.machine.now c.args.marks.items (into_iter_items c.loop-found.found-iterator) c.loop-found.parted.ends.items
      (into_iter_items c.next.new.self) c.put_mark.new.parted.ends.items c.in-Some.found
      c.loop-found.invariant.ends c.in-Some.ensures.steps.0 c.in_ok-put_mark.ensures.ends;
  going_on = going_on_by c.args.machine.now c.args.marks.items (into_iter_items c.loop-found.found-iterator)
      (into_iter_items c.next.new.self) c.loop-found.parted.going_on.items c.put_mark.new.parted.going_on.items c.in-Some.found
      c.loop-found.invariant.going_on c.in-Some.ensures.steps.0 c.in_ok-put_mark.ensures.going_on;
}
