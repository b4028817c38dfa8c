use Rattle.std.proofs.Common.{ap}
use Rattle.workpool.specs.declared.hand.Hand.{Hand}
use Rattle.workpool.proofs.FairLemmas.{cuts}
use Rattle.workpool.proofs.deque.ends.Goals as goal

pub another-pass-requires : goal.another-pass-requires
another-pass-requires c = cuts _ _ (ap (λ (v : Hand). v.parts) c.in_ok-worker.ensures.4)
