use Rattle.std.proofs.Common.{Some, refl, ap, subst, ◌∙◌}
use Rattle.vmodel.specs.declared.choice.Choice.TheVariants.{Advance}
use Rattle.vmodel.specs.Choices.{IsWithin}
use Rattle.vmodel.specs.InnerStep.{transition_to}
use Rattle.plain_steps.proofs.ViewLemmas.{plain}
use Rattle.plain_steps.proofs.state.State.step_into.Goals as goal

pub run-requires : goal.run-requires
run-requires c = subst IsWithin c.in-Some-Run.field-0-is (c.in-Some-Run.ensures.few c.in-Some-Run.field-0 refl)

pub returns-in-Some-Advance-clause-ok : goal.returns-in-Some-Advance-clause-ok
returns-in-Some-Advance-clause-ok c =
    let is = c.in-Some-Advance.ensures.plain in
    plain c.args.design.now c.args.i Advance c.args.self.now (transition_to c.advance.new.self c.advance.new.effect c.advance.new.monitors.items)
    is.0 is.1 (is.2 ∙ ap Some c.in-Some-Advance.field-0-is) (c.advance.ensures c.args.design.now)
