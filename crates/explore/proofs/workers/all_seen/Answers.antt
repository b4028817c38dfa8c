use Rattle.std.proofs.Common.{arith}
use Rattle.explore.proofs.SharedLemmas.{none_seen, one_seen}
use Rattle.explore.proofs.workers.all_seen.Goals as goal

pub loop-place-init : goal.loop-place-init
loop-place-init g c = record {
  seen = none_seen c.in_ok-all.all.items c.in_ok-all.ensures.items;
  room = omega (arith, c.in_ok-all.ensures.capacity);
}

pub push_reserved-requires : goal.push_reserved-requires
push_reserved-requires g c = omega (arith, c.loop-place.invariant.seen.count, c.loop-place.invariant.room, c.loop-place-test.true, c.loop-place.all.ok.0)

pub returns-in-None-clause-count : goal.returns-in-None-clause-count
returns-in-None-clause-count g c = omega (arith, c.loop-place.invariant.seen.count, c.loop-place-test.true)

pub returns-in-None-clause-places : goal.returns-in-None-clause-places
returns-in-None-clause-places g c = c.loop-place.invariant.seen.places

pub loop-place-preserved : goal.loop-place-preserved
loop-place-preserved g c = record {
  seen = one_seen c.loop-place.all.items c.push_reserved.new.self.items c.loop-place.place c.in-Some.seen c.loop-place.invariant.seen c.in-Some.ensures c.push_reserved.ensures.items;
  room = omega (arith, c.loop-place.invariant.room, c.push_reserved.ensures.capacity);
}

pub returns-clause-count : goal.returns-clause-count
returns-clause-count g c = omega (arith, c.loop-place.invariant.seen.count, c.loop-place.auto.place-end)

pub returns-clause-places : goal.returns-clause-places
returns-clause-places g c = c.loop-place.invariant.seen.places
