use Rattle.std.proofs.Common.{◌∙◌, ap}
use Rattle.vmodel.specs.State.{State}
use Rattle.vmachine.proofs.StandLemmas.{seen}
use Rattle.vmachine.proofs.machine.Machine.printed.Goals as goal

pub returns : goal.returns
returns c =
    λ t h. c.printed.ensures ∙ ap (λ (u : State). u.printed) c.rest.ensures ∙ ap (λ (u : State). u.printed) (seen c.args.self.now c.args.s.now t h)
