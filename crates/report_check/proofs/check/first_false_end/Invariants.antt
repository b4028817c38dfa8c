use Rattle.report_check.specs.FirstBad.{AreFirstEndsTrue, texts_of}
use Rattle.report_check.proofs.check.first_false_end.Given as goal

abbrev pub invariant-loop-place : goal.invariant-loop-place
invariant-loop-place l = AreFirstEndsTrue l.machine l.report (texts_of l.dumps) l.place
