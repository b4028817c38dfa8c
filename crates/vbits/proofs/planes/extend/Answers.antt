use Rattle.std.proofs.Common.{arith, ◌-◌}
use Rattle.vbits.proofs.Parts.{ones_within, run-set, run-added}
use Rattle.vbits.proofs.planes.extend.Goals as goal

pub overflow_sub-result : goal.overflow_sub-result
overflow_sub-result c =
    rw (c.ones.ensures, c.ones-else-top-eq0.ensures) (ones_within c.args.len c.args.wide c.requires.longer)

pub returns-else-top-eq0 : goal.returns-else-top-eq0
returns-else-top-eq0 c =
    rw (
      c.ones.ensures,
      c.ones-else-top-eq0.ensures,
      run-set c.args.top (c.args.wide - c.args.len) c.if-top-eq0.false,
      run-added c.args.len c.args.wide c.requires.longer,
    )
    (omega arith)
