use Rattle.std.proofs.Common.{sym, ap, ◌∙◌}
use Rattle.vflat.specs.Flat.{Flat}
use Rattle.vflat.specs.InnerFlat.{flat_to}
use Rattle.vflat.proofs.SilentLemmas.{silent_view}
use Rattle.vflat.proofs.flat.Flat.take_silent.Goals as goal

pub returns-clause-ok : goal.returns-clause-ok
returns-clause-ok c =
    let effect = c.take_holding.new.effect in
    let monitors = c.take_holding.new.monitors.items in
    silent_view c.args.design.now c.args.code.now c.args.i c.args.choice c.args.self.now (Rattle.vflat.specs.contracts.flat.Flat.the_view c.self.inside)
    c.print_nothing.new.self effect monitors c.requires.silent
    (c.in_ok-take_holding.ensures.ok ∙ ap (λ (f : Flat). flat_to f effect monitors) (sym c.self.view_is)) c.print_nothing.ensures
