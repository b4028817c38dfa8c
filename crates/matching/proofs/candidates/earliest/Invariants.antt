use Rattle.matching.proofs.Kept.{EarliestBefore}
use Rattle.matching.proofs.candidates.earliest.Given as goal

abbrev pub invariant-loop-place : goal.invariant-loop-place
invariant-loop-place g l = EarliestBefore l.candidates.entries l.place l.until l.least
