use Rattle.std.proofs.Common.{◌≡◌, ◌++◌, drop}
use Rattle.footprints.specs.Visits.{heard_by}
use Rattle.footprints.proofs.wait.put_heard.Given as goal

abbrev pub invariant-loop-term : goal.invariant-loop-term
invariant-loop-term l = l.things.items ++ heard_by l.news l.wait (drop l.term-index l.terms) ≡ l.initial.things.items ++ heard_by l.news l.wait l.terms
