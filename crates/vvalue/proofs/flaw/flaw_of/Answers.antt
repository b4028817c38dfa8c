use Rattle.std.proofs.Common.{[]}
use Rattle.vvalue.proofs.NodeLemmas.{alone}
use Rattle.vvalue.proofs.flaw.flaw_of.Goals as goal

pub returns : goal.returns
returns c = c.flaw_at.ensures.exact c.args.expression.now [] (alone c.args.expression.now c.nodes.result.now c.nodes.ensures)
