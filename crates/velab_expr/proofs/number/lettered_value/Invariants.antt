use Rattle.std.proofs.Common.{◌≡◌, ◌++◌, drop, length, take, replicate}
use Rattle.velab_expr.specs.Literals.{spelled_letters, filling_letters}
use Rattle.velab_expr.proofs.number.lettered_value.Given as goal

abbrev pub invariant-loop-c : goal.invariant-loop-c
invariant-loop-c l = record {
  whole : length l.value.letters ≡ 64;
  same : take 64 (spelled_letters l.count (drop l.c-index l.digits) ++ l.value.letters) ≡ take 64 (spelled_letters l.count l.digits ++ replicate 64 (filling_letters l.digits));
}
