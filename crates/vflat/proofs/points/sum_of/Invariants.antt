use Rattle.std.proofs.Common.{◌≡◌, ◌+◌, ◌%◌, ◌^◌, drop}
use Rattle.vkernel.specs.Sums.{sum_from}
use Rattle.vflat.specs.FlatSame.{point_share, points_sum}
use Rattle.vflat.proofs.points.sum_of.Given as goal

abbrev pub invariant-loop-point : goal.invariant-loop-point
invariant-loop-point l =
    (l.process ≡ l.point-index) × ((l.sum + sum_from point_share l.point-index (drop l.point-index l.points)) % 2 ^ 64 ≡ points_sum l.points)
