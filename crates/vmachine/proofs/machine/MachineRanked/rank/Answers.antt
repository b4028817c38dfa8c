use Rattle.std.proofs.Common.{◌∙◌, sym, ap}
use Rattle.vmodel.specs.State.{State}
use Rattle.vmachine.proofs.StandLemmas.{ranks}
use Rattle.vmachine.proofs.machine.MachineRanked.rank.Goals as goal

pub returns : goal.returns
returns c =
    c.time.ensures ∙ ap (λ (t : State). t.queue.time) c.rest.ensures ∙ sym (ranks c.args.self.now c.args.s.now)
