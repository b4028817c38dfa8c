use Rattle.std.proofs.Common.{◌≡◌, drop}
use Rattle.vcompile.specs.Listening.{most_events}
use Rattle.vcompile.proofs.listening.most_events.Given as goal

abbrev pub invariant-loop-term : goal.invariant-loop-term
invariant-loop-term l = most_events l.events (drop l.term-index l.terms) ≡ most_events l.most l.terms
