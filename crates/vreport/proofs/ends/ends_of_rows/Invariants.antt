use Rattle.vreport.specs.Inner.{AreEndsBelow}
use Rattle.vreport.specs.Written.{AreHeld}
use Rattle.vreport.proofs.ends.ends_of_rows.Given as goal

abbrev pub invariant-loop-place : goal.invariant-loop-place
invariant-loop-place g l = AreEndsBelow l.machine l.limits (g.M.Marks.pairs l.marks) l.rows l.place l.ends.items × AreHeld l.machine l.limits.steps l.ends.items l.held.items
