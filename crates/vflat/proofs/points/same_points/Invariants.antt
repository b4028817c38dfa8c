use Rattle.std.proofs.Common.{◌≡◌, ◌≤◌, ◌-◌, drop, length}
use Rattle.std.specs.Cmp.Lexicographic.{pointwise}
use Rattle.vcode.specs.Points.{is_same_point}
use Rattle.vflat.proofs.points.same_points.Given as goal

abbrev pub invariant-loop-n : goal.invariant-loop-n
invariant-loop-n l =
    (l.n ≤ length l.points)
    × (pointwise is_same_point (drop l.n l.points) (drop l.n l.others) ≡ pointwise is_same_point l.points l.others)

abbrev pub decreases-loop-n : goal.decreases-loop-n
decreases-loop-n l = length l.points - l.n
