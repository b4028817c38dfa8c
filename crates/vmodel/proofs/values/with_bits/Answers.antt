use Rattle.std.proofs.Common.{arith}
use Rattle.vmodel.proofs.PartLemmas.{bits_are}
use Rattle.vmodel.proofs.values.with_bits.Goals as goal

pub returns : goal.returns
returns c =
    bits_are c.args.old c.args.value c.put.result c.args.low c.len-2.result c.len-2.ensures.letters c.len-2.ensures.some
    (omega (arith, c.len.ensures, c.len-2.ensures, c.len-else-low-len.ensures, c.len-else-low-len-2.ensures, c.if-low-len.false, c.if-len-low.false)) c.put.ensures
