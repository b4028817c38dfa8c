use Rattle.std.proofs.Common.{◌≡◌, List, [], length, arith, ap, refl, sym, subst, ◌∙◌}
use Rattle.workpool.specs.declared.ring.Seat.{Seat}
use Rattle.workpool.proofs.RingLemmas.{Settling, all_back, settling_starts, settling_steps, settling_ends, next_link, nothing_left}
use Rattle.workpool.proofs.ring.settle_all.Goals as goal
use Rattle.workpool.proofs.ring.settle_all.Goals.{After-drop-seats-2}

pub loop-owner-init : goal.loop-owner-init
loop-owner-init c = record {
  settling = settling_starts c.args.seats.items c.pop.new.self.items c.in-Some.field-0 c.in-Some.field-0.owner c.in-Some.field-0.thief c.args.owners.now.items c.in-Some.ensures.items refl refl c.requires.none c.requires.ring.0 c.requires.ring.1;
  room = (let none = ap length c.requires.none in omega (arith, none, c.requires.room, c.in-Some.ensures.len, c.args.owners.now.ok.0));
}

pub settle-whole-requires : goal.settle-whole-requires
settle-whole-requires c =
    next_link c.pop-in-loop-owner.new.self.items c.in-Some-pop.field-0 c.in-Some.field-0.thief.deque c.loop-owner.last.deque c.loop-owner.seats.items c.in-Some-pop.ensures.items c.loop-owner.invariant.settling.links

pub loop-owner-preserved : goal.loop-owner-preserved
loop-owner-preserved c = record {
  settling = settling_steps c.args.seats.items c.loop-owner.seats.items c.pop-in-loop-owner.new.self.items c.in-Some-pop.field-0 c.loop-owner.last c.in-Some-pop.field-0.owner c.in-Some.field-0.thief c.in-Some-pop.field-0.thief
      c.loop-owner.owners.items c.push_reserved.new.self.items c.settle-whole.result.0
      c.loop-owner.left c.settle-whole.result.1 _ c.loop-owner.invariant.settling c.in-Some-pop.ensures.items refl refl c.settle-whole.ensures.settled c.settle-whole.ensures.back c.push_reserved.ensures.items refl;
  room = omega (arith, c.loop-owner.invariant.room, c.in-Some-pop.ensures.len, c.push_reserved.ensures.len, c.push_reserved.ensures.capacity);
}

-- how far the settling has come where nothing is left in the ring
at_end : (c : After-drop-seats-2) → Settling c.args.seats.items [] c.loop-owner.last c.in-Some.field-0.thief c.loop-owner.owners.items c.loop-owner.left
at_end c =
    let P : List Seat → Type 0 = λ l. Settling c.args.seats.items l c.loop-owner.last c.in-Some.field-0.thief c.loop-owner.owners.items c.loop-owner.left in
    let none : c.loop-owner.seats.items ≡ [] = nothing_left c.loop-owner.seats.items (sym c.loop-owner.seats.ok.0 ∙ c.in_default-pop.ensures.cases.0) in
    subst P none c.loop-owner.invariant.settling

pub returns-clause-back : goal.returns-clause-back
returns-clause-back c =
    all_back c.args.seats.items c.loop-owner.last c.in-Some.field-0.thief c.loop-owner.owners.items c.push_reserved-2.new.self.items c.settle-whole-2.result.0 c.loop-owner.left c.settle-whole-2.result.1 0
    (at_end c) c.settle-whole-2.ensures.settled c.settle-whole-2.ensures.back c.push_reserved-2.ensures.items

pub returns-clause-settled : goal.returns-clause-settled
returns-clause-settled c =
    settling_ends c.args.seats.items c.loop-owner.last c.in-Some.field-0.thief c.loop-owner.owners.items c.push_reserved-2.new.self.items c.settle-whole-2.result.0 c.loop-owner.left c.settle-whole-2.result.1 _
    (at_end c) c.settle-whole-2.ensures.settled c.settle-whole-2.ensures.back c.push_reserved-2.ensures.items refl
