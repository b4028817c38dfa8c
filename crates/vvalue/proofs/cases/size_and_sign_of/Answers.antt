use Rattle.std.proofs.Common.{[]}
use Rattle.vvalue.proofs.NodeLemmas.{alone}
use Rattle.vvalue.proofs.cases.size_and_sign_of.Goals as goal

pub returns-clause-exact : goal.returns-clause-exact
returns-clause-exact c = c.self_determined.ensures.exact c.args.expression.now [] (alone c.args.expression.now c.nodes.result.now c.nodes.ensures)
