use Rattle.std.proofs.Common.{arith}
use Rattle.std.proofs.lemmas.List.{nil_from_length}
use Rattle.std.specs.Vec.Iter.{into_iter_items}
use Rattle.racebook.proofs.EndLemmas.{ends_done, ends_on, ends_start}
use Rattle.racebook.proofs.slots.ends_among.Goals as goal

pub loop-found-init : goal.loop-found-init
loop-found-init c = ends_start c.args.machine.now c.args.marks.items (into_iter_items c.into_iter-found-iterator.result) c.new-ends.result.items c.into_iter-found-iterator.ensures.into_iter_gives.0 c.new-ends.ensures.items

pub loop-found-preserved : goal.loop-found-preserved
loop-found-preserved c =
    ends_on c.args.machine.now c.args.marks.items (into_iter_items c.loop-found.found-iterator) c.loop-found.ends.items (into_iter_items c.next.new.self) c.put_end.new.ends.items c.in-Some.found
    c.loop-found.invariant c.in-Some.ensures.steps.0 c.in_ok-put_end.ensures

pub returns : goal.returns
returns c =
    ends_done c.args.machine.now c.args.marks.items (into_iter_items c.loop-found.found-iterator) c.loop-found.ends.items c.loop-found.invariant
    (nil_from_length (into_iter_items c.loop-found.found-iterator) (omega (arith, c.loop-found.found-iterator.rest.ok.0, c.in-None.ensures.steps.0)))
