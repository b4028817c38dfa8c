use Rattle.std.proofs.Common.{ap}
use Rattle.vflat.proofs.FlatLemmas.{printed_flat}
use Rattle.vflat.proofs.flat.Flat.take_printing.Goals as goal

pub returns-clause-ok : goal.returns-clause-ok
returns-clause-ok c =
    printed_flat c.args.design.now c.args.code.now c.args.self.now c.in_ok-after.after c.take_holding.new.self c.swap.new.x
    (Rattle.vflat.specs.contracts.flat.Flat.the_view c.after.inside) c.args.i c.args.choice c.print.new.self c.take_holding.new.effect
    c.take_holding.new.monitors.items c.deref.result.now c.swap-2.new.x.items
    c.in_ok-after.ensures c.in_ok-take_holding.ensures.ok c.after.view_is c.deref.ensures.value c.in_ok-print.ensures.ok
    c.swap.ensures.x_after (ap (λ v. v.items) c.swap-2.ensures.x_after)
