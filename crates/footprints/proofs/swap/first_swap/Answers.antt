use Rattle.std.proofs.Common.{List, length, ap, arith}
use Rattle.footprints.specs.declared.visit.Visit.{Visit}
use Rattle.footprints.proofs.SwapLemmas.{none_at_all}
use Rattle.footprints.proofs.swap.first_swap.Goals as goal

pub returns-clause-none : goal.returns-clause-none
returns-clause-none c =
    none_at_all c.args.run.now c.args.parent.now c.loop-i.i (omega (arith, c.loop-i-test.false, ap (λ (list : List Visit). length list) c.visits-i-end.ensures)) c.loop-i.invariant
