use Rattle.std.proofs.Common.{◌∙◌, ap}
use Rattle.vmachine.specs.Reads.{end_in}
use Rattle.vmachine.proofs.StandLemmas.{seen}
use Rattle.vmachine.proofs.machine.Machine.end_of.Goals as goal

pub returns : goal.returns
returns c =
    λ t h. c.end_at.ensures ∙ ap end_in c.rest.ensures ∙ ap end_in (seen c.args.self.now c.args.s.now t h)
