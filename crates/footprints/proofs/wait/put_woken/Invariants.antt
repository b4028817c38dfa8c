use Rattle.std.proofs.Common.{◌≡◌, ◌++◌, drop}
use Rattle.footprints.specs.Visits.{woken_by}
use Rattle.footprints.proofs.wait.put_woken.Given as goal

abbrev pub invariant-loop-wait : goal.invariant-loop-wait
invariant-loop-wait l = l.things.items ++ woken_by l.actions l.news (drop l.wait-index l.waits) ≡ l.initial.things.items ++ woken_by l.actions l.news l.waits
