use Rattle.std.proofs.Common.{ap, ◌∙◌}
use Rattle.vmodel.specs.Run.{Setting}
use Rattle.vcompile.specs.CodeOf.{code_of}
use Rattle.vflat.specs.Representations.{representation_step}
use Rattle.vmachine.proofs.StandLemmas.{steps}
use Rattle.vmachine.proofs.machine.MachineSpace.step.Goals as goal

-- the code is that of the design, by the machine's invariant
pub returns-clause-ok : goal.returns-clause-ok
returns-clause-ok c =
    let code = c.self.invariant.0 ∙ ap (λ (setting : Setting). code_of setting.design) c.self.view_is in
    steps c.args.self.now c.args.s.now c.shrink_to_fit.new.self c.args.i
    (c.shrink_to_fit.ensures ∙ c.in_ok-go.ensures.ok ∙ (λ i. representation_step ((c.self.view_is i).design) (code i) c.args.s.now c.args.i))
