use Rattle.std.proofs.Common.{◌+◌, ◌<◌, vec_len, vec_capacity}
use Rattle.workpool.proofs.RingLemmas.{Settling}
use Rattle.workpool.proofs.ring.settle_all.Given as goal

abbrev pub invariant-loop-owner : goal.invariant-loop-owner
invariant-loop-owner l = record {
  settling : Settling l.fn.seats.items l.seats.items l.last l.first l.owners.items l.left;
  room : vec_len l.owners + vec_len l.seats < vec_capacity l.owners;
}

abbrev pub decreases-loop-owner : goal.decreases-loop-owner
decreases-loop-owner l = vec_len l.seats
