use Rattle.std.proofs.Common.{◌≡◌, ◌++◌, drop, map}
use Rattle.run_pair.specs.Pairs.{scope_in}
use Rattle.run_pair.proofs.pair.put_inner.Given as goal

abbrev pub invariant-loop-scope : goal.invariant-loop-scope
invariant-loop-scope l = l.all.items ++ map (scope_in l.around) (drop l.scope-index l.scopes) ≡ l.initial.all.items ++ map (scope_in l.around) l.scopes
