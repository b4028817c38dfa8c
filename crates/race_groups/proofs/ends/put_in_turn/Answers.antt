use Rattle.std.proofs.Common.{arith}
use Rattle.std.proofs.lemmas.List.{nil_from_length}
use Rattle.std.specs.Vec.Iter.{into_iter_items}
use Rattle.race_groups.proofs.SumLemmas.{cuts_done, first_done, grows_on, sums_done, sums_next, sums_start}
use Rattle.race_groups.proofs.ends.put_in_turn.Goals as goal

pub loop-found-init : goal.loop-found-init
loop-found-init c = sums_start c.args.machine.now c.args.ends.items (into_iter_items c.into_iter-found-iterator.result)
    c.args.kept.now.items c.args.cuts.now.items c.into_iter-found-iterator.ensures.into_iter_gives.0

pub loop-found-preserved : goal.loop-found-preserved
loop-found-preserved c =
    sums_next c.args.machine.now c.args.ends.items (into_iter_items c.loop-found.found-iterator)
    (into_iter_items c.next.new.self) c.args.kept.now.items c.loop-found.kept.items c.put_end.new.kept.items
    c.args.cuts.now.items c.loop-found.cuts.items c.put_end.new.cuts.items c.in-Some.found
    c.loop-found.invariant c.in-Some.ensures.steps.0 c.in_ok-put_end.ensures.sums c.in_ok-put_end.ensures.sums_cuts
    c.put_end.ensures.grows c.put_end.ensures.cuts_grow

pub returns-in_err-put_end-clause-grows : goal.returns-in_err-put_end-clause-grows
returns-in_err-put_end-clause-grows c = grows_on c.args.kept.now.items c.loop-found.kept.items c.put_end.new.kept.items
    c.loop-found.invariant.grows c.put_end.ensures.grows

pub returns-in_err-put_end-clause-cuts_grow : goal.returns-in_err-put_end-clause-cuts_grow
returns-in_err-put_end-clause-cuts_grow c = grows_on c.args.cuts.now.items c.loop-found.cuts.items c.put_end.new.cuts.items
    c.loop-found.invariant.cuts_grow c.put_end.ensures.cuts_grow

pub returns-clause-sums : goal.returns-clause-sums
returns-clause-sums c =
    sums_done c.args.machine.now c.args.ends.items (into_iter_items c.loop-found.found-iterator) c.args.kept.now.items
    c.loop-found.kept.items c.args.cuts.now.items c.loop-found.cuts.items c.loop-found.invariant
    (nil_from_length (into_iter_items c.loop-found.found-iterator)
    (omega (arith, c.loop-found.found-iterator.rest.ok.0, c.in-None.ensures.steps.0)))

pub returns-clause-sums_cuts : goal.returns-clause-sums_cuts
returns-clause-sums_cuts c =
    cuts_done c.args.machine.now c.args.ends.items (into_iter_items c.loop-found.found-iterator) c.args.kept.now.items
    c.loop-found.kept.items c.args.cuts.now.items c.loop-found.cuts.items c.loop-found.invariant
    (nil_from_length (into_iter_items c.loop-found.found-iterator)
    (omega (arith, c.loop-found.found-iterator.rest.ok.0, c.in-None.ensures.steps.0)))

pub returns-clause-first : goal.returns-clause-first
returns-clause-first c =
    first_done c.args.machine.now c.args.ends.items (into_iter_items c.loop-found.found-iterator) c.args.kept.now.items
    c.loop-found.kept.items c.args.cuts.now.items c.loop-found.cuts.items c.loop-found.invariant
    (nil_from_length (into_iter_items c.loop-found.found-iterator)
    (omega (arith, c.loop-found.found-iterator.rest.ok.0, c.in-None.ensures.steps.0)))

pub returns-clause-grows : goal.returns-clause-grows
returns-clause-grows c = c.loop-found.invariant.grows

pub returns-clause-cuts_grow : goal.returns-clause-cuts_grow
returns-clause-cuts_grow c = c.loop-found.invariant.cuts_grow
