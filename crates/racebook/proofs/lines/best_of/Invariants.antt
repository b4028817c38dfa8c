use Rattle.sched_core.specs.Bags.{bag_cmp}
use Rattle.racebook.specs.Inner.{IsBestBelow, rows_of_lines, themselves}
use Rattle.racebook.proofs.lines.best_of.Given as goal

abbrev pub invariant-loop-place : goal.invariant-loop-place
invariant-loop-place l = IsBestBelow themselves bag_cmp (rows_of_lines l.slot) l.place l.best
