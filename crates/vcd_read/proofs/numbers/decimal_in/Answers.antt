use Rattle.std.proofs.Common.{arith}
use Rattle.basis.proofs.Decimals.{are_digits}
use Rattle.vcd_read.proofs.numbers.decimal_in.Goals as goal

pub value_of-requires : goal.value_of-requires
value_of-requires c = are_digits c.args.word.now (omega (arith, c.if-digits_len-word.false, c.digits_len.ensures.value))
