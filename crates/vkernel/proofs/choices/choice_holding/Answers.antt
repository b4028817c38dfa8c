use Rattle.std.proofs.Common.{◌<◌, ◌≤◌, ◌∙◌, arith}
use Rattle.vmodel.specs.Choices.{order_of}
use Rattle.vkernel.proofs.OrderLemmas.{holding_choice}
use Rattle.vkernel.proofs.choices.choice_holding.Goals as goal

pub returns-else-i-order-clause-exact : goal.returns-else-i-order-clause-exact
returns-else-i-order-clause-exact c =
    let order = c.order_width-order.result in
    let some : 0 < order = grind arith in
    let le : order ≤ c.args.i = grind arith in
    c.order_at-else-i-order.ensures.exact
    ∙ holding_choice (order_of c.args.held.now c.args.queue.now) c.args.queue.now.future order c.args.i c.order_width-order.ensures.exact some le
