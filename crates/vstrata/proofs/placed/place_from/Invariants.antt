use Rattle.std.proofs.Common.{◌≡◌, ◌+◌, ◌-◌, drop}
use Rattle.vmodel.specs.Inner.{place_of_time}
use Rattle.vstrata.proofs.placed.place_from.Given as goal

abbrev pub invariant-loop-place : goal.invariant-loop-place
invariant-loop-place l = l.place + place_of_time l.time (drop l.place l.entries.items) ≡ place_of_time l.time l.entries.items

abbrev pub decreases-loop-place : goal.decreases-loop-place
decreases-loop-place l = l.count - l.place
