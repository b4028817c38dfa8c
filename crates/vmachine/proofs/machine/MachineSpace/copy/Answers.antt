use Rattle.basis.proofs.Results.{on_ok_value}
use Rattle.vmachine.proofs.StandLemmas.{copies}
use Rattle.vmachine.proofs.machine.MachineSpace.copy.Goals as goal

pub returns : goal.returns
returns c = on_ok_value c.copy.result (λ t is. copies c.args.self.now c.args.s.now t is) c.copy.ensures
