use Rattle.std.proofs.Common.{◌≡◌, drop}
use Rattle.velab_declaration.specs.ActionFlaws.{table_fault}
use Rattle.vhierarchy.specs.Instances.{broken_selection}
use Rattle.vhierarchy.proofs.select.first_wrong.Given as goal

abbrev pub invariant-loop-place : goal.invariant-loop-place
invariant-loop-place l =
    table_fault (broken_selection l.scopes l.variables) (drop l.place l.actions) (drop l.place l.words) ≡ table_fault (broken_selection l.scopes l.variables) l.actions l.words
