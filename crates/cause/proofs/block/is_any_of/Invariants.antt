use Rattle.std.proofs.Common.{◌≡◌, drop}
use Rattle.std.specs.List.{list_any}
use Rattle.cause.specs.Behind.{is_of}
use Rattle.cause.proofs.block.is_any_of.Given as goal

abbrev pub invariant-loop-term : goal.invariant-loop-term
invariant-loop-term l = list_any (is_of l.number) (drop l.term-index l.terms) ≡ list_any (is_of l.number) l.terms
