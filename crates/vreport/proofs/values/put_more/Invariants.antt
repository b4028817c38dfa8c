use Rattle.std.proofs.Common.{◌≡◌, ◌++◌, drop}
use Rattle.vreport.specs.Values.{more_values}
use Rattle.vreport.proofs.values.put_more.Given as goal

abbrev pub invariant-loop-value : goal.invariant-loop-value
invariant-loop-value l = l.line.items ++ more_values (drop l.value-index l.values) ≡ l.initial.line.items ++ more_values l.values
