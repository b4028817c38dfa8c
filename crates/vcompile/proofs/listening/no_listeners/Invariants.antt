use Rattle.std.proofs.Common.{◌≡◌, [], replicate}
use Rattle.vcompile.proofs.listening.no_listeners.Given as goal

abbrev pub invariant-loop : goal.invariant-loop
invariant-loop l = l.lists.items ≡ replicate l.counter []
