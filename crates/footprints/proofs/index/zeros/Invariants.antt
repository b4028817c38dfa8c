use Rattle.std.proofs.Common.{◌≡◌, length}
use Rattle.footprints.proofs.index.zeros.Given as goal

abbrev pub invariant-loop : goal.invariant-loop
invariant-loop l = length l.list.items ≡ l.counter
