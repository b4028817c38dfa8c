use Rattle.std.proofs.Common.{◌≡◌, ◌++◌, drop}
use Rattle.footprints.specs.Inner.{named_by_all}
use Rattle.footprints.proofs.footprint.put_named.Given as goal

abbrev pub invariant-loop-node : goal.invariant-loop-node
invariant-loop-node l = l.things.items ++ named_by_all (drop l.node-index l.nodes) ≡ l.initial.things.items ++ named_by_all l.nodes
