use Rattle.std.proofs.Common.{◌≡◌, ◌++◌, drop}
use Rattle.footprints.specs.Visits.{standing_on}
use Rattle.footprints.proofs.wait.standing_on.Given as goal

abbrev pub invariant-loop-wait : goal.invariant-loop-wait
invariant-loop-wait l = l.left.items ++ standing_on l.actions l.news (drop l.wait-index l.waits) ≡ standing_on l.actions l.news l.waits
