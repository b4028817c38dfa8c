use Rattle.vreport.specs.Inner.{AreRowsBelow}
use Rattle.vreport.proofs.row.all_rows.Given as goal

abbrev pub invariant-loop-place : goal.invariant-loop-place
invariant-loop-place g l = AreRowsBelow l.machine (g.M.Marks.pairs l.marks) l.place l.rows.items
