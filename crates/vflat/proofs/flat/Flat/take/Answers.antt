use Rattle.std.proofs.Common.{ap, ◌∙◌}
use Rattle.vmodel.specs.declared.choice.Choice.{Choice}
use Rattle.vflat.specs.Flat.{flat_transition_of}
use Rattle.vflat.proofs.flat.Flat.take.Goals as goal

pub returns-in-Update-clause-ok : goal.returns-in-Update-clause-ok
returns-in-Update-clause-ok c =
    ap (λ (choice : Choice). flat_transition_of c.args.design.now c.args.code.now choice c.args.self.now) c.in-Update.is ∙ c.update.ensures c.args.design.now

pub returns-in-Advance-clause-ok : goal.returns-in-Advance-clause-ok
returns-in-Advance-clause-ok c =
    ap (λ (choice : Choice). flat_transition_of c.args.design.now c.args.code.now choice c.args.self.now) c.in-Advance.is
    ∙ c.advance.ensures c.args.design.now c.args.code.now
