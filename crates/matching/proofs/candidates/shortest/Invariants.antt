use Rattle.matching.proofs.Kept.{IsShortestSoFar}
use Rattle.matching.proofs.candidates.shortest.Given as goal

abbrev pub invariant-loop-state : goal.invariant-loop-state
invariant-loop-state g l = IsShortestSoFar l.fn.candidates.entries l.state-iterator l.best
