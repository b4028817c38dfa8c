use Rattle.std.proofs.Common.{◌≡◌, drop}
use Rattle.cause.specs.Behind.{are_plain}
use Rattle.cause.proofs.block.are_plain.Given as goal

abbrev pub invariant-loop-term : goal.invariant-loop-term
invariant-loop-term l = are_plain (drop l.term-index l.terms) ≡ are_plain l.terms
