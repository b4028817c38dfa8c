use Rattle.std.proofs.Common.{◌≡◌, drop}
use Rattle.cause.specs.Behind.{are_heard}
use Rattle.cause.proofs.block.are_heard.Given as goal

abbrev pub invariant-loop-thing : goal.invariant-loop-thing
invariant-loop-thing l = are_heard l.terms (drop l.thing-index l.things) ≡ are_heard l.terms l.things
