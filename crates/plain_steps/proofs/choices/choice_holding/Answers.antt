use Rattle.std.proofs.Common.{ℕ, ◌<◌, ◌≤◌, ◌-◌, ◌+◌, length, ap, ◌∙◌, arith}
use Rattle.std.specs.Prelude.{slice_get}
use Rattle.vmodel.specs.Choices.{order_of}
use Rattle.plain_steps.proofs.OrderLemmas.{choice_holds}
use Rattle.plain_steps.proofs.choices.choice_holding.Goals as goal

pub returns-else-i-order-clause-exact : goal.returns-else-i-order-clause-exact
returns-else-i-order-clause-exact c =
    let order = order_of c.args.held.now c.args.queue.now in
    let some : 0 < length order = grind arith in
    let le : length order ≤ c.args.i = grind arith in
    c.order_at-else-i-order.ensures.exact
    ∙ ap (λ (m : ℕ). slice_get order (c.args.i - m + 1)) c.order_width-order.ensures.exact
    ∙ choice_holds order c.args.queue.now.future c.args.i some le
