use Rattle.std.proofs.Common.{◌+◌, ◌*◌}
use Rattle.vstatement_parse.proofs.statements.+statements.Given as goal

abbrev pub decreases-statement : goal.decreases-statement
decreases-statement l = 2 * l.levels

abbrev pub decreases-at_level : goal.decreases-at_level
decreases-at_level l = 2 * l.below + 1
