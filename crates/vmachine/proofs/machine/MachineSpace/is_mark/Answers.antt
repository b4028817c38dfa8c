use Rattle.std.proofs.Common.{◌∙◌, sym, ap}
use Rattle.vmodel.specs.Run.{is_mark}
use Rattle.vmachine.proofs.StandLemmas.{marks}
use Rattle.vmachine.proofs.machine.MachineSpace.is_mark.Goals as goal

pub returns : goal.returns
returns c =
    c.is_mark.ensures ∙ ap is_mark c.rest.ensures ∙ sym (marks c.args.self.now c.args.s.now)
