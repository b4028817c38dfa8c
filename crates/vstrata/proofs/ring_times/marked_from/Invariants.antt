use Rattle.std.proofs.Common.{◌-◌, take}
use Rattle.vstrata.specs.Marks.{AreMarks}
use Rattle.vstrata.proofs.ring_times.marked_from.Given as goal

abbrev pub invariant-loop-place : goal.invariant-loop-place
invariant-loop-place l = AreMarks l.marks l.time (take l.place l.entries.items)

abbrev pub decreases-loop-place : goal.decreases-loop-place
decreases-loop-place l = l.count - l.place
