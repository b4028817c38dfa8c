use Rattle.std.proofs.Common.{ap, sym, ◌∙◌}
use Rattle.std.specs.Prelude.{option_map}
use Rattle.vmodel.specs.State.{State}
use Rattle.vmodel.specs.InnerStep.{transition_to}
use Rattle.vmodel.specs.Printed.{lines_before}
use Rattle.plain_steps.proofs.SilentStepLemmas.{silent_view}
use Rattle.plain_steps.proofs.state.State.take_silent.Goals as goal

pub returns-clause-ok : goal.returns-clause-ok
returns-clause-ok c =
    silent_view c.args.design.now c.args.i c.args.choice c.args.self.now c.take_holding.new.self c.print_nothing.new.printed c.take_holding.new.effect
    c.take_holding.new.monitors.items c.requires.silent c.in_ok-take_holding.ensures.ok
    (c.print_nothing.ensures ∙ ap (λ (s : State). option_map (lines_before c.args.choice) s.printed) c.self.view_is)
    ∙ ap (λ (s : State). transition_to (record s { printed = c.print_nothing.new.printed }) c.take_holding.new.effect c.take_holding.new.monitors.items)
    (sym c.self.view_is)
