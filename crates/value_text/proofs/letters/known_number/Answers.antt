use Rattle.std.proofs.Common.{arith}
use Rattle.value_text.proofs.KnownLemmas.{known_bit_small, known_more, known_small}
use Rattle.value_text.proofs.letters.known_number.Goals as goal

pub overflow_mul-number : goal.overflow_mul-number
overflow_mul-number c =
    omega (arith, known_small c.args.bits.letters c.loop-i.i c.loop-i.number c.requires (omega arith) c.loop-i.invariant.0 c.loop-i.invariant.1)

pub overflow_add-number : goal.overflow_add-number
overflow_add-number c =
    omega (
      arith,
      known_bit_small _ c.known_bit.result c.known_bit.ensures,
      known_small c.args.bits.letters c.loop-i.i c.loop-i.number c.requires (omega arith) c.loop-i.invariant.0 c.loop-i.invariant.1,
    )

pub loop-i-preserved : goal.loop-i-preserved
loop-i-preserved c = (
  omega arith,
  known_more c.args.bits.letters c.loop-i.i c.bit.result c.known_bit.result c.loop-i.number (omega arith) c.bit.ensures c.known_bit.ensures
      c.loop-i.invariant.1,
)
