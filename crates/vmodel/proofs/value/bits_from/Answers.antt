use Rattle.std.proofs.Common.{arith}
use Rattle.vmodel.proofs.PartLemmas.{from_is}
use Rattle.vmodel.proofs.value.bits_from.Goals as goal

pub returns : goal.returns
returns c =
    from_is c.args.variable c.args.low c.min-count.result c.args.old c.args.value c.select.result
    (omega (arith, c.len.ensures, c.if-low-len.false))
    (omega (arith, c.len-2.ensures))
    (omega (arith, c.min-count.ensures, c.len-2.ensures, c.len-3.ensures))
    c.select.ensures
