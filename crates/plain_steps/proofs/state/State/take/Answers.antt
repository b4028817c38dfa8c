use Rattle.std.proofs.Common.{ap, ◌∙◌}
use Rattle.vmodel.specs.declared.choice.Choice.{Choice}
use Rattle.vmodel.specs.Step.{transition_of}
use Rattle.plain_steps.proofs.state.State.take.Goals as goal

pub returns-in-Advance-clause-ok : goal.returns-in-Advance-clause-ok
returns-in-Advance-clause-ok c =
    ap (λ (choice : Choice). transition_of c.args.design.now choice c.args.self.now) c.in-Advance.is ∙ c.advance.ensures c.args.design.now
