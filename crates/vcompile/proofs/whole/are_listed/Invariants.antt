use Rattle.std.proofs.Common.{◌≡◌, drop}
use Rattle.vcompile.specs.Whole.{are_listed}
use Rattle.vcompile.proofs.whole.are_listed.Given as goal

abbrev pub invariant-loop-term : goal.invariant-loop-term
invariant-loop-term l = are_listed l.variables l.events (drop l.term-index l.terms) ≡ are_listed l.variables l.events l.terms
