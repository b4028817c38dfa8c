use Rattle.std.proofs.Common.{ap}
use Rattle.plain_steps.proofs.ViewLemmas.{viewed}
use Rattle.plain_steps.proofs.state.State.take_printing.Goals as goal

pub returns-clause-ok : goal.returns-clause-ok
returns-clause-ok c =
    viewed c.args.design.now c.args.i c.args.choice c.args.self.now c.in_ok-after.after c.take_holding.new.self c.print.new.self c.swap.new.x
    c.take_holding.new.effect c.take_holding.new.monitors.items c.deref.result.now c.swap-2.new.x.items
    c.in_ok-after.ensures c.in_ok-take_holding.ensures.ok c.deref.ensures.value c.in_ok-print.ensures
    c.swap.ensures.x_after (ap (λ v. v.items) c.swap-2.ensures.x_after)
