use Rattle.std.proofs.Common.{◌-◌, ◌≡◌, ◌≤◌, length, drop}
use Rattle.std.specs.Cmp.Lexicographic.{pointwise}
use Rattle.vmodel.specs.Same.{frame_same}
use Rattle.plain_steps.specs.InnerContinuation.{stack}
use Rattle.plain_steps.proofs.continuation.Continuation.is_like_frame_by_frame.Given as goal

abbrev pub invariant-loop-depth : goal.invariant-loop-depth
invariant-loop-depth l =
    (l.depth ≤ l.len)
    × (l.len ≡ length (stack l.self))
    × (l.len ≡ length (stack l.other))
    × (pointwise frame_same (drop l.depth (stack l.self)) (drop l.depth (stack l.other)) ≡ pointwise frame_same (stack l.self) (stack l.other))

abbrev pub decreases-loop-depth : goal.decreases-loop-depth
decreases-loop-depth l = l.len - l.depth
