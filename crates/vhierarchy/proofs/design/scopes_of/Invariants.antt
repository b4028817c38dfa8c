use Rattle.std.proofs.Common.{◌≡◌, ◌++◌, drop}
use Rattle.vhierarchy.specs.Inner.{scope_names}
use Rattle.vhierarchy.proofs.design.scopes_of.Given as goal

abbrev pub invariant-loop-scope : goal.invariant-loop-scope
invariant-loop-scope l = l.names ++ scope_names (drop l.scope-index l.scopes) ≡ scope_names l.scopes
