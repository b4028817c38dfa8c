use Rattle.std.proofs.Common.{◌∙◌, ap}
use Rattle.vmodel.specs.Run.{end_of}
use Rattle.vmachine.proofs.StandLemmas.{ends_read}
use Rattle.vmachine.proofs.machine.Machine.last_of.Goals as goal

pub returns : goal.returns
returns c =
    λ t h. c.end.ensures ∙ ap end_of c.rest.ensures ∙ ends_read c.args.self.now c.args.s.now t h
