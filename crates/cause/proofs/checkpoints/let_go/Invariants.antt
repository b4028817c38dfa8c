use Rattle.vmodel.specs.Run.{Setting}
use Rattle.cause.specs.Checkpoints.{AreCheckpoints}
use Rattle.cause.proofs.checkpoints.let_go.Given as goal

abbrev pub invariant-loop-k : goal.invariant-loop-k
invariant-loop-k l = (setting : Setting) → AreCheckpoints setting l.initial.list.items → AreCheckpoints setting l.list.items
