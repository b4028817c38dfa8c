use Rattle.std.proofs.Common.{◌+◌, ◌*◌}
use Rattle.vexpr_parse.proofs.levels.+levels.Given as goal

abbrev pub decreases-of_rank : goal.decreases-of_rank
decreases-of_rank l = 2 * l.levels

abbrev pub decreases-at_level : goal.decreases-at_level
decreases-at_level l = 2 * l.below + 1
