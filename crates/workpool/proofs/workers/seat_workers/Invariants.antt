use Rattle.std.proofs.Common.{◌≡◌, ◌+◌, ◌≤◌, length, vec_len, vec_capacity}
use Rattle.workpool.proofs.JoinLemmas.{Seating}
use Rattle.workpool.proofs.workers.seat_workers.Given as goal

abbrev pub invariant-loop-seat : goal.invariant-loop-seat
invariant-loop-seat g l = record {
  seating : Seating (g.P.Space.rules l.space) l.limits l.tally l.fn.ring.items l.ring.items l.works.items l.fn.pass.parts l.pass.parts;
  count : l.pass.count ≡ l.fn.pass.count;
  here : l.all.tally ≡ l.tally;
  left : l.all.parts + length l.fn.ring.items ≡ l.fn.all.parts + length l.ring.items;
  rest : l.all ≡ record l.fn.all { parts = l.all.parts };
  enough : length l.fn.ring.items + 1 ≤ l.fn.all.parts;
  room : vec_len l.ring + vec_len l.works ≤ vec_capacity l.works;
  capacity : vec_capacity l.ring ≡ vec_capacity l.fn.ring;
}

abbrev pub decreases-loop-seat : goal.decreases-loop-seat
decreases-loop-seat g l = vec_len l.ring
