use Rattle.std.proofs.Common.{◌≤◌, vec_capacity}
use Rattle.explore.proofs.SharedLemmas.{SeenUpTo}
use Rattle.explore.proofs.workers.all_seen.Given as goal

abbrev pub invariant-loop-place : goal.invariant-loop-place
invariant-loop-place g l = record {
  seen : SeenUpTo l.all.items l.place;
  room : l.count ≤ vec_capacity l.all;
}
