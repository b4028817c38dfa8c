use Rattle.std.proofs.Common.{arith}
use Rattle.workpool.proofs.FairLemmas.{takes}
use Rattle.workpool.proofs.deque.Thief.steal.Goals as goal

pub steal_as-requires-clause-takes : goal.steal_as-requires-clause-takes
steal_as-requires-clause-takes c = takes _ _ (omega (arith, c.self.invariant.1)) 1
