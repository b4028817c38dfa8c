use Rattle.std.proofs.Common.{◌≡◌, drop}
use Rattle.velab_declaration.specs.ActionFlaws.{flaw_rule}
use Rattle.velab_declaration.specs.ActionFlaws.{table_fault}
use Rattle.velab_declaration.proofs.width.first_flawed.Given as goal

abbrev pub invariant-loop-place : goal.invariant-loop-place
invariant-loop-place l = table_fault (flaw_rule l.environment) (drop l.place l.actions) (drop l.place l.words) ≡ table_fault (flaw_rule l.environment) l.actions l.words
