use Rattle.std.proofs.Common.{◌≡◌, ◌+◌, ◌%◌, ◌^◌, drop}
use Rattle.vkernel.specs.Sums.{sum_from}
use Rattle.vflat.specs.FlatSame.{turns_share, turns_sum}
use Rattle.vflat.proofs.turns.sum_of.Given as goal

abbrev pub invariant-loop-left : goal.invariant-loop-left
invariant-loop-left l =
    (l.counter ≡ l.left-index) × ((l.sum + sum_from turns_share l.left-index (drop l.left-index l.turns)) % 2 ^ 64 ≡ turns_sum l.turns)
