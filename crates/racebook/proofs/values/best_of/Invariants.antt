use Rattle.racebook.specs.Inner.{IsBestBelow, key_cmp, key_of, rows_of}
use Rattle.racebook.proofs.values.best_of.Given as goal

abbrev pub invariant-loop-place : goal.invariant-loop-place
invariant-loop-place l = IsBestBelow key_of key_cmp (rows_of l.variable l.slot) l.place l.best
