use Rattle.std.proofs.Common.{◌≡◌, ◌≤◌, length, take}
use Rattle.footprints.specs.Visits.{visits_by}
use Rattle.footprints.proofs.visit.visits_by.Given as goal

abbrev pub invariant-loop-k : goal.invariant-loop-k
invariant-loop-k l = record {
  within : l.k ≤ length l.visits;
  sum : visits_by l.actor (take l.k l.visits) ≡ visits_by l.actor l.visits;
}

abbrev pub decreases-loop-k : goal.decreases-loop-k
decreases-loop-k l = l.k
