use Rattle.std.proofs.Common.{arith}
use Rattle.workpool.proofs.FairLemmas.{pops}
use Rattle.workpool.proofs.deque.Owner.take.Goals as goal

pub pop_as-requires-clause-lifo : goal.pop_as-requires-clause-lifo
pop_as-requires-clause-lifo c = λ _. pops _ _ (omega (arith, c.self.invariant.1))
