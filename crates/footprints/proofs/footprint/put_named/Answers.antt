use Rattle.std.proofs.Common.{arith}
use Rattle.footprints.proofs.FootprintLemmas.{named_whole}
use Rattle.footprints.proofs.footprint.put_named.Goals as goal

pub returns : goal.returns
returns c =
    named_whole c.args.expression.now c.nodes-nodes.result.now c.loop-node.node-index c.args.things.now.items c.loop-node.things.items c.nodes-nodes.ensures (omega arith)
    c.loop-node.invariant
