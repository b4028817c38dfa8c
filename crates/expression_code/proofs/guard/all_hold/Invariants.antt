use Rattle.std.proofs.Common.{◌≡◌, drop}
use Rattle.expression_code.specs.Guards.{all_hold}
use Rattle.expression_code.proofs.guard.all_hold.Given as goal

abbrev pub invariant-loop-guard : goal.invariant-loop-guard
invariant-loop-guard l = all_hold l.values (drop l.guard-index l.guards) ≡ all_hold l.values l.guards
