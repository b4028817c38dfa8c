use Rattle.std.proofs.Common.{◌≡◌, ◌<◌, ◌%◌, ◌^◌, drop, fold}
use Rattle.vlex.specs.Forms.{with_digit}
use Rattle.velab_expr.proofs.number.low_number.Given as goal

abbrev pub invariant-loop-c : goal.invariant-loop-c
invariant-loop-c l = record {
  low : l.n < 2 ^ 64;
  same : fold with_digit l.n (drop l.c-index l.digits) % 2 ^ 64 ≡ fold with_digit 0 l.digits % 2 ^ 64;
}
