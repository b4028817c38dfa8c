use Rattle.std.proofs.Common.{◌≡◌}
use Rattle.cause.specs.Behind.{last_changer}
use Rattle.cause.specs.Inner.{whole}
use Rattle.cause.proofs.behind.last_changer.Given as goal

abbrev pub invariant-loop-k : goal.invariant-loop-k
invariant-loop-k l = last_changer l.things (whole l.slot) l.k ≡ last_changer l.things (whole l.slot) l.n

abbrev pub decreases-loop-k : goal.decreases-loop-k
decreases-loop-k l = l.k
