use Rattle.report_check.proofs.ClaimLemmas.{AreTrueUpTo}
use Rattle.report_check.proofs.race.is_true_race.Given as goal

abbrev pub invariant-loop-place : goal.invariant-loop-place
invariant-loop-place l = AreTrueUpTo l.machine l.report l.race l.place
