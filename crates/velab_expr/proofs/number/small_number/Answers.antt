use Rattle.std.proofs.Common.{arith}
use Rattle.velab_expr.proofs.NumberLemmas.{small_step}
use Rattle.velab_expr.proofs.number.small_number.Goals as goal

pub loop-c-preserved : goal.loop-c-preserved
loop-c-preserved c = record {
  small = omega (arith, c.size_with_digit-n.ensures);
  same = small_step c.args.digits.now c.loop-c.c-index c.loop-c.n c.size_with_digit-n.result _ (omega arith) c.size_with_digit-n.ensures c.loop-c.invariant.same;
}
