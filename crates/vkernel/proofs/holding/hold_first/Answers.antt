use Rattle.std.proofs.Common.{sym, ◌∙◌, arith}
use Rattle.vmodel.specs.Choices.{order_of}
use Rattle.vmodel.specs.Inner.{with_some_held}
use Rattle.vkernel.proofs.OrderLemmas.{one_more_held}
use Rattle.vkernel.proofs.holding.hold_first.Goals as goal

pub loop-i-preserved : goal.loop-i-preserved
loop-i-preserved c = (
  omega arith,
  c.hold_some.ensures
      ∙ (λ k. with_some_held (c.order_at.ensures.exact k) (c.loop-i.invariant.1 k))
      ∙ sym (one_more_held (order_of c.args.held.now c.args.queue.now) c.loop-i.i c.args.others),
)
