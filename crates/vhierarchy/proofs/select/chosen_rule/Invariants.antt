use Rattle.std.proofs.Common.{◌≡◌, drop}
use Rattle.vhierarchy.specs.Instances.{broken_chosen}
use Rattle.vhierarchy.proofs.select.chosen_rule.Given as goal

abbrev pub invariant-loop-one : goal.invariant-loop-one
invariant-loop-one l = broken_chosen l.scopes l.variables (drop l.one-index l.list) ≡ broken_chosen l.scopes l.variables l.list
