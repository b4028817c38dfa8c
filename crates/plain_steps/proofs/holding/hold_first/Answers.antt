use Rattle.std.proofs.Common.{◌≡◌, ◌+◌, ℕ, suc, take, ap, ◌∙◌, arith}
use Rattle.vmodel.specs.Choices.{order_of}
use Rattle.vmodel.specs.Holding.{with_held}
use Rattle.vmodel.specs.Inner.{with_some_held}
use Rattle.plain_steps.proofs.OrderLemmas.{held_next}
use Rattle.plain_steps.proofs.holding.hold_first.Goals as goal

pub loop-i-preserved : goal.loop-i-preserved
loop-i-preserved c =
    let order = order_of c.args.held.now c.args.queue.now in
    let next : suc c.loop-i.i ≡ c.loop-i.i + 1 = omega arith in (
      omega arith,
      c.hold_some.ensures
          ∙ (λ k. with_some_held (c.order_at.ensures.exact k) (c.loop-i.invariant.1 k))
          ∙ held_next order c.loop-i.i c.args.others
          ∙ ap (λ (n : ℕ). with_held (take n order) c.args.others) next,
    )
