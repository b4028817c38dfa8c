use Rattle.std.proofs.Common.{◌≡◌, drop}
use Rattle.cause.specs.Causes.{step_in}
use Rattle.cause.proofs.cause.step_in.Given as goal

abbrev pub invariant-loop-other : goal.invariant-loop-other
invariant-loop-other l = step_in l.visit (drop l.other-index l.visits) ≡ step_in l.visit l.visits
