use Rattle.std.proofs.Common.{◌≡◌, ◌+◌, ◌∙◌, [], length, arith, ap, sym}
use Rattle.workpool.proofs.RingLemmas.{nothing_left}
use Rattle.workpool.proofs.JoinLemmas.{joined, joining_starts, joining_steps, last_ready}
use Rattle.workpool.specs.Inner.Joined.{all_opens, all_parts, seats_onto}
use Rattle.workpool.proofs.workers.join_workers.Given.{Over}
use Rattle.workpool.proofs.workers.join_workers.Goals as goal
use Rattle.workpool.proofs.workers.join_workers.Goals.{In_default}

pub loop-work-init : goal.loop-work-init
loop-work-init g c = record {
  joining = joining_starts (g.P.Space.rules c.args.space.now) c.args.limits.now c.args.tally.now c.args.start c.args.works.items c.args.ring.now.items c.requires.none c.requires.ready c.requires.summed;
  room = (let none = ap length c.requires.none in omega (arith, none, c.requires.room, c.args.ring.now.ok.0));
}

pub add-more-requires-clause-here : goal.add-more-requires-clause-here
add-more-requires-clause-here g c = c.loop-work.invariant.joining.summed.here

pub add-more-requires-clause-there : goal.add-more-requires-clause-there
add-more-requires-clause-there g c =
    (last_ready (g.P.Space.rules c.args.space.now) c.args.limits.now c.args.tally.now c.args.start c.args.works.items c.loop-work.works.items c.pop.new.self.items c.in-Some.work c.loop-work.ring.items c.loop-work.sum
    c.loop-work.invariant.joining c.in-Some.ensures.items).1.seated.here

pub push_reserved-requires : goal.push_reserved-requires
push_reserved-requires g c = omega (arith, c.loop-work.invariant.room, c.in-Some.ensures.len)

pub loop-work-preserved : goal.loop-work-preserved
loop-work-preserved g c = record {
  joining = joining_steps (g.P.Space.rules c.args.space.now) c.args.limits.now c.args.tally.now c.args.start c.args.works.items c.loop-work.works.items c.pop.new.self.items c.in-Some.work c.loop-work.ring.items c.push_reserved.new.self.items c.add-more.result.1 c.loop-work.sum c.add-more.result.0
      c.loop-work.invariant.joining c.in-Some.ensures.items c.add-more.ensures.seat c.push_reserved.ensures.items c.add-more.ensures.sum;
  room = omega (arith, c.loop-work.invariant.room, c.in-Some.ensures.len, c.push_reserved.ensures.len, c.push_reserved.ensures.capacity);
}

all_joined : (g : Over) (c : In_default g) → (c.loop-work.ring.items ≡ seats_onto c.args.works.items []) × (c.loop-work.sum.tally.parts ≡ c.args.start.tally.parts + length c.args.works.items) × (c.loop-work.sum.pass.parts ≡ c.args.start.pass.parts + all_parts c.args.works.items) × (c.loop-work.sum.tally.opens ≡ c.args.start.tally.opens + all_opens c.args.works.items)
all_joined g c =
    joined (g.P.Space.rules c.args.space.now) c.args.limits.now c.args.tally.now c.args.start c.args.works.items c.loop-work.works.items c.loop-work.ring.items c.loop-work.sum c.loop-work.invariant.joining
    (nothing_left c.loop-work.works.items (sym c.loop-work.works.ok.0 ∙ c.in_default.ensures.cases.0))

pub returns-clause-seats : goal.returns-clause-seats
returns-clause-seats g c = (all_joined g (goal.at.returns-clause-seats g c).In_default).0

pub returns-clause-summed : goal.returns-clause-summed
returns-clause-summed g c = c.loop-work.invariant.joining.summed

pub returns-clause-seat : goal.returns-clause-seat
returns-clause-seat g c = (all_joined g (goal.at.returns-clause-seat g c).In_default).1

pub returns-clause-parts : goal.returns-clause-parts
returns-clause-parts g c = (all_joined g (goal.at.returns-clause-parts g c).In_default).2

pub returns-clause-opens : goal.returns-clause-opens
returns-clause-opens g c = (all_joined g (goal.at.returns-clause-opens g c).In_default).3
