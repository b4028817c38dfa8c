use Rattle.std.proofs.Common.{◌≡◌, ◌≤◌, drop, fold, min}
use Rattle.vlex.specs.Forms.{with_digit}
use Rattle.velab_expr.proofs.number.small_number.Given as goal

abbrev pub invariant-loop-c : goal.invariant-loop-c
invariant-loop-c l = record {
  small : l.n ≤ 64;
  same : min 64 (fold with_digit l.n (drop l.c-index l.digits)) ≡ min 64 (fold with_digit 0 l.digits);
}
