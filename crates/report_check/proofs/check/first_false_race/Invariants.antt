use Rattle.report_check.proofs.FirstLemmas.{AreTrueBelow}
use Rattle.report_check.proofs.check.first_false_race.Given as goal

abbrev pub invariant-loop-place : goal.invariant-loop-place
invariant-loop-place l = AreTrueBelow l.machine l.report l.place
