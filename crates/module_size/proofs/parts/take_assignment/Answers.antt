use Rattle.module_size.proofs.SizeLemmas.{in_turn}
use Rattle.module_size.proofs.parts.take_assignment.Goals as goal

pub returns : goal.returns
returns c words =
    in_turn c.args.left c.take_target-left.result c.take_amount.result c.take_expression.result _ _ _
    (c.take_target-left.ensures words) (c.take_amount.ensures words) (c.take_expression.ensures words)
