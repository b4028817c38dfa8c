use Rattle.std.proofs.Common.{◌≡◌, ◌≤◌, ◌+◌, drop, length, reverse, vec_len, vec_capacity}
use Rattle.vmodel.specs.Step.{frames}
use Rattle.plain_steps.proofs.process.put_frames.Given as goal

abbrev pub invariant-loop-n : goal.invariant-loop-n
invariant-loop-n l =
    (l.n ≤ length l.places)
    × (vec_len l.continuation + l.n ≤ vec_capacity l.continuation)
    × (reverse l.continuation.items ≡ frames (drop l.n l.places) (reverse l.fn.continuation.items))

abbrev pub decreases-loop-n : goal.decreases-loop-n
decreases-loop-n l = l.n
