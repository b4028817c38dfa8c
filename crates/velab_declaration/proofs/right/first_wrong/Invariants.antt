use Rattle.std.proofs.Common.{◌≡◌, drop}
use Rattle.velab_declaration.specs.Right.{kind_rule}
use Rattle.velab_declaration.specs.ActionFlaws.{table_fault}
use Rattle.velab_declaration.proofs.right.first_wrong.Given as goal

abbrev pub invariant-loop-place : goal.invariant-loop-place
invariant-loop-place l = table_fault (kind_rule l.variables) (drop l.place l.actions) (drop l.place l.words) ≡ table_fault (kind_rule l.variables) l.actions l.words
