use Rattle.std.proofs.Common.{◌≡◌, drop}
use Rattle.expression_code.specs.Guards.{with_guards, named_in}
use Rattle.expression_code.proofs.guard.put_nodes.Given as goal

abbrev pub invariant-loop-node : goal.invariant-loop-node
invariant-loop-node l =
    with_guards l.variables (named_in (drop l.node-index l.nodes)) l.guards.items ≡ with_guards l.variables (named_in l.nodes) l.initial.guards.items
