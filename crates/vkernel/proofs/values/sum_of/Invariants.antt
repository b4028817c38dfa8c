use Rattle.std.proofs.Common.{◌≡◌, ◌+◌, ◌%◌, ◌^◌, drop}
use Rattle.vkernel.specs.Sums.{vector_share, sum_from, values_sum}
use Rattle.vkernel.proofs.values.sum_of.Given as goal

abbrev pub invariant-loop-value : goal.invariant-loop-value
invariant-loop-value l =
    (l.variable ≡ l.value-index) × ((l.sum + sum_from vector_share l.value-index (drop l.value-index l.values)) % 2 ^ 64 ≡ values_sum l.values)
