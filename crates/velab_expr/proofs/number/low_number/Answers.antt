use Rattle.std.proofs.Common.{◌<◌, ◌^◌, arith, lit<, subst, sym}
use Rattle.std.proofs.Math.Nat.{mod-lt}
use Rattle.velab_expr.proofs.NumberLemmas.{low_step}
use Rattle.velab_expr.proofs.number.low_number.Goals as goal

pub loop-c-preserved : goal.loop-c-preserved
loop-c-preserved c = record {
  low = subst (λ n. n < 2 ^ 64) (sym c.with_digit-n.ensures) (mod-lt _ (lit< tt));
  same = low_step (2 ^ 64) c.args.digits.now c.loop-c.c-index c.loop-c.n c.with_digit-n.result _ (omega arith) c.with_digit-n.ensures c.loop-c.invariant.same;
}
