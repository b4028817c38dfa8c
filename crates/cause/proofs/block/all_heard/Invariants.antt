use Rattle.std.proofs.Common.{◌≡◌, ◌++◌, drop, map}
use Rattle.cause.specs.Behind.{thing_heard}
use Rattle.cause.proofs.block.all_heard.Given as goal

abbrev pub invariant-loop-term : goal.invariant-loop-term
invariant-loop-term l = l.things.items ++ map thing_heard (drop l.term-index l.terms) ≡ map thing_heard l.terms
