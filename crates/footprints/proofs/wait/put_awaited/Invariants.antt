use Rattle.std.proofs.Common.{◌≡◌, ◌++◌, drop, map}
use Rattle.footprints.specs.Visits.{awaited_by}
use Rattle.footprints.proofs.wait.put_awaited.Given as goal

abbrev pub invariant-loop-term : goal.invariant-loop-term
invariant-loop-term l = l.things.items ++ map (awaited_by l.wait) (drop l.term-index l.terms) ≡ l.initial.things.items ++ map (awaited_by l.wait) l.terms
