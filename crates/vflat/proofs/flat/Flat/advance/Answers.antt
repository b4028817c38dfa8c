use Rattle.std.proofs.Common.{◌≡◌, ap, subst}
use Rattle.vmodel.specs.declared.choice.Choice.TheVariants.{Advance}
use Rattle.vmodel.specs.Step.{transition_of}
use Rattle.vflat.specs.Flat.{Flat, with_rest}
use Rattle.vflat.specs.InnerFlat.{flat_to}
use Rattle.vflat.proofs.flat.Flat.advance.Goals as goal

pub returns : goal.returns
returns c = λ design code.
    subst (λ (f : Flat). with_rest f (transition_of design Advance f.rest)
    ≡ flat_to (Rattle.vflat.specs.contracts.flat.Flat.the_view (record c.self.inside { rest = c.advance.new.self })) c.advance.new.effect c.advance.new.monitors.items)
    c.self.view_is
    (ap (with_rest (Rattle.vflat.specs.contracts.flat.Flat.the_view c.self.inside)) (c.advance.ensures design))
