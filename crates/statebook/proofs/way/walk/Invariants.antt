use Rattle.std.proofs.Common.{◌≤◌, ◌-◌}
use Rattle.statebook.specs.Inner.Forced.{Passes}
use Rattle.statebook.proofs.way.walk.Given as goal

abbrev pub invariant-loop-taken : goal.invariant-loop-taken
invariant-loop-taken g l = record {
  low : l.taken ≤ l.n;
  high : l.n ≤ l.limit;
  way : Passes (g.P.Space.rules l.space) l.initial.state l.state (l.n - l.taken);
}

abbrev pub decreases-loop-taken : goal.decreases-loop-taken
decreases-loop-taken g l = l.limit - l.n
