use Rattle.std.proofs.Common.{[]}
use Rattle.expression_code.proofs.OperationLemmas.{alone}
use Rattle.expression_code.proofs.run.run_expression.Goals as goal

pub returns : goal.returns
returns c = c.run_first.ensures.exact c.args.code.now [] (alone c.args.code.now c.operations.result.now c.operations.ensures)
