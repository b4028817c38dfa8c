use Rattle.std.proofs.Common.{length}
use Rattle.expression_code.proofs.size.+self_determined.Given as goal

abbrev pub decreases-self_determined : goal.decreases-self_determined
decreases-self_determined l = length l.nodes.now
