use Rattle.std.proofs.Common.{◌≡◌}
use Rattle.cause.specs.Behind.{behind}
use Rattle.cause.specs.Inner.{whole}
use Rattle.cause.proofs.behind.behind.Given as goal

abbrev pub invariant-loop-left : goal.invariant-loop-left
invariant-loop-left l = behind l.design (whole l.slot) l.left l.at ≡ behind l.design (whole l.slot) l.most l.i

abbrev pub decreases-loop-left : goal.decreases-loop-left
decreases-loop-left l = l.left
