use Rattle.std.proofs.Common.{◌∙◌, sym, ap, length}
use Rattle.vmodel.specs.State.{State}
use Rattle.vmodel.specs.Choices.{choices}
use Rattle.vmachine.proofs.StandLemmas.{widths}
use Rattle.vmachine.proofs.machine.MachineSpace.width.Goals as goal

pub returns : goal.returns
returns c =
    c.width.ensures ∙ ap (λ (s : State). length (choices s)) c.rest.ensures ∙ sym (widths c.args.self.now c.args.s.now)
