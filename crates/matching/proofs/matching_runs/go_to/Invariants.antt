use Rattle.std.proofs.Common.{◌≡◌}
use Rattle.matching.specs.Inner.Candidates.{NearFromSome}
use Rattle.matching.specs.Inner.Searching.{AreNear, IsSearch}
use Rattle.matching.proofs.Ends.{FollowedSoFar}
use Rattle.matching.proofs.matching_runs.go_to.Given as goal

abbrev pub invariant-loop-state : goal.invariant-loop-state
invariant-loop-state g l = record {
  search : IsSearch g.P.State.PartialEq.eq (g.P.Space.rules l.space) (g.P.Ranked.ranks l.space) l.search;
  time : l.search.time ≡ l.time;
  near : AreNear (NearFromSome (g.P.Space.rules l.space) l.limits.depart l.time l.fn.before.candidates.entries) l.search.ending
      l.search.waiting;
  follow : FollowedSoFar (g.P.Space.rules l.space) (g.P.Ranked.ranks l.space) (g.R.Reference.piece l.reference).differ l.limits.depart
      l.time l.fn.before.candidates.entries l.state-iterator l.search.candidates.entries;
}
