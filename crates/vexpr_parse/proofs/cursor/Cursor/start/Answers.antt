use Rattle.std.proofs.Common.{refl}
use Rattle.vexpr_parse.proofs.Cursors.{ahead_start}
use Rattle.vexpr_parse.proofs.cursor.Cursor.start.Goals as goal

pub returns : goal.returns
returns c = λ tokens. ahead_start tokens _ refl
