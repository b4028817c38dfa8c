use Rattle.std.proofs.Common.{[], ap, ◌∙◌}
use Rattle.vvalue.specs.Value.{value_of}
use Rattle.vvalue.proofs.NodeLemmas.{alone}
use Rattle.vvalue.proofs.asked.self_determined_value.Goals as goal

pub returns : goal.returns
returns c =
    let is = alone c.args.expression.now c.nodes-nodes.result.now c.nodes-nodes.ensures in
    c.value_of-value.ensures.exact c.args.expression.now [] is
    ∙ ap (value_of c.args.environment.now c.args.expression.now) (c.self_determined.ensures.exact c.args.expression.now [] is)
