use Rattle.std.proofs.Common.{◌≡◌, drop}
use Rattle.vmodel.proofs.process_set.ProcessSet.get.Given as goal

abbrev pub invariant-loop : goal.invariant-loop
invariant-loop l = l.rest ≡ drop l.counter l.self
