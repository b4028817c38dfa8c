use Rattle.std.proofs.Common.{◌∙◌, sym, ap}
use Rattle.vmodel.specs.State.{State}
use Rattle.vmachine.proofs.StandLemmas.{seen, tells}
use Rattle.vmachine.proofs.machine.Machine.values.Goals as goal

pub returns-clause-stands : goal.returns-clause-stands
returns-clause-stands c =
    λ t h. c.values.ensures ∙ ap (λ (u : State). u.values) c.rest.ensures ∙ ap (λ (u : State). u.values) (seen c.args.self.now c.args.s.now t h)

pub returns-clause-own : goal.returns-clause-own
returns-clause-own c =
    c.values.ensures ∙ ap (λ (u : State). u.values) c.rest.ensures ∙ ap (λ (u : State). u.values) (sym (tells c.args.self.now c.args.s.now))
