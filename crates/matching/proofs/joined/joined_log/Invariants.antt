use Rattle.std.proofs.Common.{◌≡◌, ◌++◌, length}
use Rattle.matching.specs.Inner.Slots.{log_later}
use Rattle.matching.proofs.joined.joined_log.Given as goal

-- what was put and what is left make the whole
abbrev pub invariant-loop-member : goal.invariant-loop-member
invariant-loop-member l = l.joined ++ log_later l.steps l.rest ≡ l.log ++ log_later l.steps l.slot

abbrev pub decreases-loop-member : goal.decreases-loop-member
decreases-loop-member l = length l.rest
