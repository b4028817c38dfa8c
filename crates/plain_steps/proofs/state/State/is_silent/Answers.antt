use Rattle.std.proofs.Common.{sym, ◌∙◌}
use Rattle.basis.proofs.Lists.{empty_from_test}
use Rattle.plain_steps.proofs.SilentStepLemmas.{silent}
use Rattle.plain_steps.proofs.state.State.is_silent.Goals as goal

pub returns : goal.returns
returns c h = silent c.args.design.now c.args.choice c.args.self.now
    ((λ k. (sym c.self.view_is k).queue.strobes) ∙ empty_from_test _ (sym c.has_no_strobe.ensures ∙ h))
    (sym c.is_at_print.ensures ∙ c.if-is_at_print.false)
