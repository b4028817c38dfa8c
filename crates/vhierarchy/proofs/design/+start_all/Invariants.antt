use Rattle.std.proofs.Common.{length}
use Rattle.vhierarchy.proofs.design.+start_all.Given as goal

abbrev pub decreases-start_all : goal.decreases-start_all
decreases-start_all l = length l.variables.now
