use Rattle.cause.proofs.checkpoints.let_go.Goals as goal

pub loop-k-preserved : goal.loop-k-preserved
loop-k-preserved c = λ setting are. c.let_one_go.ensures setting (c.loop-k.invariant setting are)
