use Rattle.std.proofs.Common.{◌≡◌, drop}
use Rattle.vcompile.specs.Listening.{with_terms}
use Rattle.vcompile.proofs.listening.put_terms.Given as goal

abbrev pub invariant-loop-term : goal.invariant-loop-term
invariant-loop-term l = with_terms l.listener (drop l.term-index l.terms) l.lists ≡ with_terms l.listener l.terms l.initial.lists
