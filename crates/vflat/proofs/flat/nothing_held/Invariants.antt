use Rattle.std.proofs.Common.{◌≡◌, replicate, None}
use Rattle.vflat.proofs.flat.nothing_held.Given as goal

abbrev pub invariant-loop : goal.invariant-loop
invariant-loop l = l.held.items ≡ replicate l.counter None
