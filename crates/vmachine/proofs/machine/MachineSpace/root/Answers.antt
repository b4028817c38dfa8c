use Rattle.basis.proofs.Results.{on_ok_value}
use Rattle.vmachine.proofs.StandLemmas.{opens}
use Rattle.vmachine.proofs.machine.MachineSpace.root.Goals as goal

pub returns : goal.returns
returns c = on_ok_value c.first.result (λ s is. opens c.args.self.now s is) c.first.ensures
