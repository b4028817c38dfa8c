use Rattle.std.proofs.Common.{◌+◌, ◌≤◌, vec_len, vec_capacity}
use Rattle.workpool.proofs.JoinLemmas.{Joining}
use Rattle.workpool.proofs.workers.join_workers.Given as goal

abbrev pub invariant-loop-work : goal.invariant-loop-work
invariant-loop-work g l = record {
  joining : Joining (g.P.Space.rules l.space) l.limits l.tally l.fn.start l.fn.works.items l.works.items l.ring.items l.sum;
  room : vec_len l.ring + vec_len l.works ≤ vec_capacity l.ring;
}

abbrev pub decreases-loop-work : goal.decreases-loop-work
decreases-loop-work g l = vec_len l.works
