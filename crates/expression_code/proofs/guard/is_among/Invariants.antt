use Rattle.std.proofs.Common.{◌≡◌, drop}
use Rattle.expression_code.specs.Guards.{is_among}
use Rattle.expression_code.proofs.guard.is_among.Given as goal

abbrev pub invariant-loop-other : goal.invariant-loop-other
invariant-loop-other l = is_among l.guard (drop l.other-index l.guards) ≡ is_among l.guard l.guards
