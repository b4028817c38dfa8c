use Rattle.vexpr_parse.proofs.Places.{reads_soundly, reads_completely, reads_longest, is_only}
use Rattle.vexpr_parse.proofs.law.expression_law.Goals as goal

pub returns-clause-sound : goal.returns-clause-sound
returns-clause-sound c = reads_soundly

pub returns-clause-complete : goal.returns-clause-complete
returns-clause-complete c = reads_completely

pub returns-clause-only : goal.returns-clause-only
returns-clause-only c = is_only

pub returns-clause-longest : goal.returns-clause-longest
returns-clause-longest c = reads_longest
