use Rattle.std.proofs.Common.{◌≡◌}
use Rattle.vvalue.specs.Value.{copies}
use Rattle.vvalue.proofs.select.repeated_value.Given as goal

abbrev pub invariant-loop : goal.invariant-loop
invariant-loop l = l.all ≡ copies l.counter l.value
