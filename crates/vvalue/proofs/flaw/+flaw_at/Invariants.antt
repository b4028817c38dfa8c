use Rattle.std.proofs.Common.{length}
use Rattle.vvalue.proofs.flaw.+flaw_at.Given as goal

abbrev pub decreases-flaw_at : goal.decreases-flaw_at
decreases-flaw_at l = length l.nodes.now
