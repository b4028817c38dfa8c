use Rattle.std.proofs.Common.{◌≡◌, ◌-◌, ◌∙◌, List, [], length, arith, ap, refl, sym, subst}
use Rattle.workpool.specs.Tallies.{Seated}
use Rattle.workpool.specs.declared.ring.Seat.{Seat}
use Rattle.workpool.proofs.RingLemmas.{nothing_left}
use Rattle.workpool.proofs.JoinLemmas.{Seating, each_at, fresh_ready, next_idle, seating_starts, seating_steps, IsIdle}
use Rattle.workpool.specs.Inner.Joined.{IsReady}
use Rattle.workpool.proofs.workers.seat_workers.Given.{Over}
use Rattle.workpool.proofs.workers.seat_workers.Goals as goal
use Rattle.workpool.proofs.workers.seat_workers.Goals.{In_default}

pub loop-seat-init : goal.loop-seat-init
loop-seat-init g c = record {
  seating = seating_starts (g.P.Space.rules c.args.space.now) c.args.limits.now c.args.tally.now c.args.ring.now.items c.args.works.now.items c.args.pass.now.parts c.requires.none c.requires.idle;
  count = refl;
  here = c.requires.here;
  left = refl;
  rest = refl;
  enough = omega (arith, c.requires.parts);
  room = (let none = ap length c.requires.none in omega (arith, none, c.requires.room, c.args.works.now.ok.0));
  capacity = refl;
}

pub split-requires-clause-parts : goal.split-requires-clause-parts
split-requires-clause-parts g c =
    let i = c.loop-seat.invariant in
    let some = c.in-Some.ensures.len in
    omega (arith, i.left, i.enough, some, c.loop-seat.ring.ok.0)

pub push_reserved-requires : goal.push_reserved-requires
push_reserved-requires g c = omega (arith, c.loop-seat.invariant.room, c.in-Some.ensures.len)

pub loop-seat-preserved : goal.loop-seat-preserved
loop-seat-preserved g c =
    let r = g.P.Space.rules c.args.space.now in
    let i = c.loop-seat.invariant in
    let idle : IsIdle c.in-Some.seat = (next_idle r c.args.limits.now c.args.tally.now c.args.ring.now.items c.loop-seat.ring.items c.pop.new.self.items c.in-Some.seat c.loop-seat.works.items c.args.pass.now.parts c.loop-seat.pass.parts i.seating c.in-Some.ensures.items).1 in
    record {
      seating = seating_steps r c.args.limits.now c.args.tally.now c.args.ring.now.items c.loop-seat.ring.items c.pop.new.self.items c.loop-seat.works.items c.push_reserved.new.self.items _ c.args.pass.now.parts c.loop-seat.pass.parts c.split-in-Some.new.self.parts
          i.seating c.in-Some.ensures.items c.push_reserved.ensures.items c.split-in-Some.ensures.parts
          (fresh_ready r c.args.limits.now c.args.tally.now c.loop-seat.all _ i.here c.split.ensures.new idle c.split-in-Some.ensures.nothing refl refl refl) (ap (λ (s : Seated). s.opens) c.split.ensures.new);
      count = c.split-in-Some.ensures.count ∙ i.count;
      here = ap (λ (s : Seated). s.tally) c.split.ensures.left ∙ i.here;
      left = (let parts = ap (λ (s : Seated). s.parts) c.split.ensures.left in
          let some = c.in-Some.ensures.len in
          omega (arith, parts, i.left, i.enough, some, c.loop-seat.ring.ok.0, c.pop.new.self.ok.0));
      rest = (let was = i.rest in let now = c.split.ensures.left in
          λ k. record {
            tally = (ap (λ (s : Seated). s.tally) now ∙ ap (λ (s : Seated). s.tally) was) k;
            parts = c.split.new.seat.parts;
            opens = (ap (λ (s : Seated). s.opens) now ∙ ap (λ (s : Seated). s.opens) was) k;
            shuts = (ap (λ (s : Seated). s.shuts) now ∙ ap (λ (s : Seated). s.shuts) was) k;
            stopped = (ap (λ (s : Seated). s.stopped) now ∙ ap (λ (s : Seated). s.stopped) was) k;
          });
      enough = i.enough;
      room = omega (arith, i.room, c.in-Some.ensures.len, c.push_reserved.ensures.len, c.push_reserved.ensures.capacity);
      capacity = c.in-Some.ensures.capacity ∙ i.capacity;
    }

-- nothing is left in the ring
none_left : (g : Over) (c : In_default g) → c.loop-seat.ring.items ≡ []
none_left g c = nothing_left c.loop-seat.ring.items (sym c.loop-seat.ring.ok.0 ∙ c.in_default.ensures.cases.0)

pub returns-clause-capacity : goal.returns-clause-capacity
returns-clause-capacity g c = c.in_default.ensures.capacity ∙ c.loop-seat.invariant.capacity

pub returns-clause-seats : goal.returns-clause-seats
returns-clause-seats g c =
    let P : List Seat → Type 0 = λ l. Seating (g.P.Space.rules c.args.space.now) c.args.limits.now c.args.tally.now c.args.ring.now.items l c.loop-seat.works.items c.args.pass.now.parts c.loop-seat.pass.parts in
    (subst P (none_left g (goal.at.returns-clause-seats g c).In_default) c.loop-seat.invariant.seating).seats

pub returns-clause-ready : goal.returns-clause-ready
returns-clause-ready g c = each_at (IsReady (g.P.Space.rules c.args.space.now) c.args.limits.now c.args.tally.now) c.loop-seat.works.items c.loop-seat.invariant.seating.ready

pub returns-clause-parts : goal.returns-clause-parts
returns-clause-parts g c = c.loop-seat.invariant.seating.shared

pub returns-clause-left : goal.returns-clause-left
returns-clause-left g c =
    let i = c.loop-seat.invariant in
    let none : length c.loop-seat.ring.items ≡ 0 = ap length (none_left g (goal.at.returns-clause-left g c).In_default) in
    let parts : c.loop-seat.all.parts ≡ c.args.all.now.parts - length c.args.ring.now.items = omega (arith, i.left, none) in
    i.rest ∙ ap (λ p. record c.args.all.now { parts = p }) parts

pub returns-clause-opens : goal.returns-clause-opens
returns-clause-opens g c = c.loop-seat.invariant.seating.unopened
