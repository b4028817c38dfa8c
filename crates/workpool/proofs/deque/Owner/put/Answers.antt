use Rattle.std.proofs.Common.{arith}
use Rattle.workpool.proofs.FairLemmas.{puts}
use Rattle.workpool.proofs.deque.Owner.put.Goals as goal

pub push_as-requires-clause-pushes : goal.push_as-requires-clause-pushes
push_as-requires-clause-pushes c = puts _ _ (omega (arith, c.self.invariant.1)) c.args.job
